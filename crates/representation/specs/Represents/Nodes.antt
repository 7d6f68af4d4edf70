-- A call on a node leaves the record and the broadcasts that the call is defined by, as long as there is room for the broadcasts;
-- the carries stay.
use Rattle.std.specs.Prelude.{ℕ, ◌+◌, ◌≤◌, ◌<◌, ◌≡◌, refl, ltb, length, take, set}
use Rattle.std.proofs.Common.{sym, ◌∙◌, add-one, arith, lt-ltb, length-set, length-append, take-suc-set}
use Rattle.std.proofs.Math.Path.{ap}
use mathlib.Core.List.{List, [], ◌∷◌, ◌++◌, map, append_assoc, append-nil}
use Rattle.std.proofs.Math.ListN.{length-map}
use Rattle.limits.specs.Limits.{longest_frame}
use Rattle.lists.specs.Choice.Laws.{choose_yes, choose_ind}
use Rattle.lists.specs.Lists.Laws.{pad_front}
use Rattle.frame.specs.Encoding.{encode}
use Rattle.protocol.specs.Steps.{Done}
use Rattle.node.specs.declared.Node.{Node}
use Rattle.node.specs.Node.{most_broadcasts, written, log_of, stored_frame, joined, joined_all, with_base, node_after}
use Rattle.node.specs.Node.Log.{log_length}
use Rattle.node.specs.Node.Memory.{SizedNode}

-- ---- what joining broadcasts leaves alone
pub record Same (v u : Node) : Type 0 where
  pub base : u.base ≡ v.base
  pub heard : u.heard ≡ v.heard
  pub places : length u.frames ≡ length v.frames

joined_same : (v : Node) (bytes : List ℕ) → Same v (joined v bytes)
unfolding joined
joined_same v bytes = choose_ind (Same v) (ltb v.count most_broadcasts)
    (λ _. record { base = refl; heard = refl; places = length-set v.frames v.count (stored_frame bytes) })
    (λ _. record { base = refl; heard = refl; places = refl })

joined_all_same : (v : Node) (log : List (List ℕ)) → Same v (joined_all v log)
unfolding joined_all
joined_all_same v [] = record { base = refl; heard = refl; places = refl }
joined_all_same v (bytes ∷ log) =
    let one = joined_same v bytes in
    let rest = joined_all_same (joined v bytes) log in
    record { base = rest.base ∙ one.base; heard = rest.heard ∙ one.heard; places = rest.places ∙ one.places }

same_sized : {v u : Node} → Same v u → SizedNode v → SizedNode u
same_sized S Z = record { frames = S.places ∙ Z.frames; heard = ap length S.heard ∙ Z.heard }

-- ---- the broadcasts
written_frame : (bytes : List ℕ) → written (stored_frame bytes) ≡ bytes
unfolding written stored_frame
written_frame bytes = pad_front longest_frame bytes (length bytes) refl

pub map_snoc : {A B : Type 0} (f : A → B) (l : List A) (x : A) → map f (l ++ (x ∷ [])) ≡ map f l ++ (f x ∷ [])
map_snoc f [] x = refl
map_snoc {B = B} f (y ∷ l) x = ap (λ (k : List B). f y ∷ k) (map_snoc f l x)

broadcasts_below : (v : Node) → SizedNode v → length (log_of v) < most_broadcasts → v.count < most_broadcasts
broadcasts_below v Z h = omega (arith, log_length v, Z.frames)

joined_log : (v : Node) (bytes : List ℕ)
    → SizedNode v → length (log_of v) < most_broadcasts → log_of (joined v bytes) ≡ log_of v ++ (bytes ∷ [])
unfolding joined
joined_log v bytes Z h = ap log_of (choose_yes _ _ (lt-ltb v.count most_broadcasts (broadcasts_below v Z h))) ∙ stored
  where
    stored : log_of (record {
      base = v.base;
      count = v.count + 1;
      frames = set v.frames v.count (stored_frame bytes);
      heard = v.heard;
    }) ≡ log_of v ++ (bytes ∷ [])
    stored = unfold log_of in rw (add-one v.count)
        (ap (map written) (take-suc-set v.frames v.count (stored_frame bytes) (omega (arith, broadcasts_below v Z h, Z.frames)))
        ∙ map_snoc written (take v.count v.frames) (stored_frame bytes)
        ∙ ap (λ (b : List ℕ). map written (take v.count v.frames) ++ (b ∷ [])) (written_frame bytes))

joined_all_log : (v : Node) (log : List (List ℕ))
    → SizedNode v → length (log_of v) + length log ≤ most_broadcasts → log_of (joined_all v log) ≡ log_of v ++ log
unfolding joined_all
joined_all_log v [] Z h = sym (append-nil (log_of v))
joined_all_log v (bytes ∷ log) Z h =
    let one = joined_log v bytes Z (omega arith) in
    joined_all_log (joined v bytes) log (same_sized (joined_same v bytes) Z) (more one)
    ∙ ap (λ (l : List (List ℕ)). l ++ log) one ∙ append_assoc (log_of v) (bytes ∷ []) log
  where
    more : log_of (joined v bytes) ≡ log_of v ++ (bytes ∷ []) → length (log_of (joined v bytes)) + length log ≤ most_broadcasts
    more one = omega (arith, simp length-append at (ap length one))

-- ---- a call
pub after_base : (v : Node) (d : Done) → (node_after v d).base ≡ d.base
unfolding node_after with_base
after_base v d = (joined_all_same (with_base v d.base) (map encode d.says)).base

pub after_heard : (v : Node) (d : Done) → (node_after v d).heard ≡ v.heard
unfolding node_after with_base
after_heard v d = (joined_all_same (with_base v d.base) (map encode d.says)).heard

with_base_sized : (v : Node) (d : Done) → SizedNode v → SizedNode (with_base v d.base)
unfolding with_base
with_base_sized v d Z = record { frames = Z.frames; heard = Z.heard }

pub after_sized : (v : Node) (d : Done) → SizedNode v → SizedNode (node_after v d)
unfolding node_after
after_sized v d Z = same_sized (joined_all_same (with_base v d.base) (map encode d.says)) (with_base_sized v d Z)

pub after_log : (v : Node) (d : Done)
    → SizedNode v → length (log_of v) + length d.says ≤ most_broadcasts → log_of (node_after v d) ≡ log_of v ++ map encode d.says
unfolding node_after
after_log v d Z h = joined_all_log (with_base v d.base) (map encode d.says)
    (with_base_sized v d Z) (unfold with_base log_of in omega (arith, length-map d.says encode)) ∙ (unfold with_base log_of in refl)
