-- How many broadcasts a base has, and each of them.
use Rattle.std.specs.Prelude.{ℕ, zero, suc, ◌-◌, ◌≤◌, ◌<◌, min, ◌≡◌, refl, List, [], ◌∷◌, map, length, get_or, take, ltb}
use Rattle.std.proofs.Math.Path.{sym}
use Rattle.std.proofs.Common.{arith, lt-ltb, le-ltb, ltb-true, ltb-false}
use Rattle.std.proofs.Math.ListN.{length-map}
use Rattle.lists.specs.Choice.Laws.{chosen_yes, chosen_no, choose_ind}
use Rattle.lists.specs.Lists.Laws.{taken_length, taken_at}
use Rattle.node.specs.declared.Frame.{Frame}
use Rattle.node.specs.declared.Node.{Node}
use Rattle.node.specs.Node.{written, log_of, empty_frame, no_frame, frame_at}

pub log_length : (v : Node) → length (log_of v) ≡ min v.count (length v.frames)
unfolding log_of
log_length v = taken_length written v.count v.frames

-- ---- the k-th
pub frame_there : (v : Node) (i k : ℕ) → i ≡ k - 1 → i < length (log_of v) → get_or v.frames i no_frame ≡ frame_at v k
unfolding frame_at
frame_there v i k e h = rw e (chosen_yes _ (lt-ltb (k - 1) (length (log_of v)) (omega arith)) refl)

pub frame_none : (v : Node) (i k : ℕ) → i ≡ k - 1 → length (log_of v) ≤ i → empty_frame ≡ frame_at v k
unfolding frame_at
frame_none v i k e h = chosen_no _ (le-ltb (k - 1) (length (log_of v)) (omega arith)) refl

past_map : (frames : List Frame) (i : ℕ) → length frames ≤ i → get_or (map written frames) i [] ≡ []
past_map [] i h = refl
past_map (f ∷ frames) zero h = absurd (omega arith)
past_map (f ∷ frames) (suc i) h = past_map frames i (omega arith)

-- its bytes are those of the log
pub frame_written : (v : Node) (k : ℕ) → written (frame_at v k) ≡ get_or (log_of v) (k - 1) []
unfolding frame_at
frame_written v k = choose_ind (λ (f : Frame). written f ≡ get_or (log_of v) (k - 1) []) (ltb (k - 1) (length (log_of v)))
    (λ t. there (ltb-true (k - 1) (length (log_of v)) t)) (λ t. past (ltb-false (k - 1) (length (log_of v)) t))
  where
    kept : List Frame
    kept = take v.count v.frames

    counted : length (log_of v) ≡ length kept
    counted = unfold log_of in length-map kept written

    there : k - 1 < length (log_of v) → written (get_or v.frames (k - 1) no_frame) ≡ get_or (log_of v) (k - 1) []
    there h = unfold log_of written in taken_at written v.count v.frames (k - 1) no_frame h

    past : length (log_of v) ≤ k - 1 → written empty_frame ≡ get_or (log_of v) (k - 1) []
    past h = unfold log_of written in sym (past_map kept (k - 1) (omega (arith, counted)))
