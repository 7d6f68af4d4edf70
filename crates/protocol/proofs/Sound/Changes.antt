-- A sound link stays sound as it takes in an Announce, a Verify or a vector message that document 01 lets it accept.
use Rattle.std.specs.Prelude.{ℕ, ◌+◌, ◌≤◌, ◌<◌, ◌≡◌, ◌⊎◌, false, List, [], ◌∷◌, ◌++◌, eqb, length, drop, set}
use Rattle.std.proofs.Common.{sym, ◌∙◌, inl, inr, add-one, arith, leb-false, drop-set-lt, drop-drop}
use Rattle.std.proofs.Math.Path.{ap}
use Rattle.std.proofs.Math.Bool.{true}
use Rattle.std.proofs.Math.ListN.{take}
use Rattle.std.proofs.Math.Seq.{take-suc-set}
use Rattle.limits.specs.Limits.{most_bases}
use Rattle.lists.specs.Choice.{choose, and, or}
use Rattle.lists.specs.Lists.{nonzero, distinct, zeros, pad_to}
use Rattle.lists.specs.Lists.Sets.{nonzero_snoc, distinct_snoc}
use Rattle.lists.specs.Lists.Zeros.{zeros_drop}
use Rattle.counting.specs.Sums.Bounds.{bit_most}
use Rattle.protocol.specs.declared.Link.{Link}
use Rattle.protocol.specs.Links.{announces, verifies_of, holds_verify, used, full}
use Rattle.protocol.proofs.Links.Laws.{count_used}
use Rattle.protocol.specs.Sound.{list_sound, held_sound}
use Rattle.protocol.proofs.Sound.Laws.{ListParts, parts_list, LinkParts}
use Rattle.protocol.specs.Steps.{with_announce, with_verify, with_vector}

pub not_full : (n : ℕ) (l : Link) → full n l ≡ false → used l < n + 1
unfolding full
not_full n l e = omega (arith, leb-false _ (used l) e)

module _ {n : ℕ} {l : Link} (P : LinkParts n l) where
  pub announce_parts : (g : ℕ) → full n l ≡ false → LinkParts n (with_announce l g)
  unfolding with_announce verifies_of held_sound
  announce_parts g f = record { room = room; above_zero = P.above_zero; apart = P.apart; behind = P.behind; held = P.held }
    where
      room : used (with_announce l g) ≤ n + 1
      room = go (not_full n l f) (count_used l)
        where
          go : used l < n + 1 → l.verify_count ≤ used l → used (with_announce l g) ≤ n + 1
          go h k = unfold used in omega (arith, h, k, bit_most (announces (with_announce l g)))

  pub vector_parts : (kind : ℕ) (v : List ℕ) → (kind ≡ 3) ⊎ (kind ≡ 4) → ListParts n (pad_to most_bases v)
      → LinkParts n (with_vector l kind v)
  unfolding with_vector verifies_of held_sound used announces
  vector_parts kind v k L = record { room = P.room; above_zero = P.above_zero; apart = P.apart; behind = P.behind; held = held k }
    where
      held : (kind ≡ 3) ⊎ (kind ≡ 4)
          → choose (eqb kind 0) (zeros (pad_to most_bases v)) (and (or (eqb kind 3) (eqb kind 4)) (list_sound n
          (pad_to most_bases v))) ≡ true
      held (inl e) = unfold choose and or in rw e (parts_list L)
      held (inr e) = unfold choose and or in rw e (parts_list L)

  -- a Verify stands behind those that were there
  verifies_longer : (g : ℕ) → l.verify_count < length l.verifies → verifies_of (with_verify l g) ≡ verifies_of l ++ (g ∷ [])
  unfolding verifies_of with_verify
  verifies_longer g h = ap (λ (k : ℕ). take k (set l.verifies l.verify_count g)) (add-one l.verify_count)
      ∙ take-suc-set l.verifies l.verify_count g h

  verifies_behind : (g : ℕ) → zeros (drop (l.verify_count + 1) (set l.verifies l.verify_count g)) ≡ true
  verifies_behind g =
      ap zeros (drop-set-lt (l.verify_count + 1) l.verifies l.verify_count g (omega arith)
      ∙ sym (drop-drop 1 l.verify_count l.verifies))
      ∙ zeros_drop 1 (drop l.verify_count l.verifies) P.behind

  pub verify_parts : (g : ℕ) → nonzero (g ∷ []) ≡ true → holds_verify l g ≡ false → full n l ≡ false
      → l.verify_count < length l.verifies → LinkParts n (with_verify l g)
  verify_parts g some new f h = record {
    room = room (not_full n l f);
    above_zero = ap nonzero (verifies_longer g h) ∙ nonzero_snoc (verifies_of l) g P.above_zero some;
    apart = ap distinct (verifies_longer g h) ∙ distinct_snoc (verifies_of l) g P.apart (unfold holds_verify in new);
    behind = unfold with_verify in verifies_behind g;
    held = unfold with_verify held_sound in P.held;
  }
    where
      room : used l < n + 1 → used (with_verify l g) ≤ n + 1
      room k = unfold used with_verify announces in omega (arith, k)
