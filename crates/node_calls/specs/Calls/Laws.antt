-- The three frames of a call, taken from the output by their lengths, are those that the call broadcast.
use Rattle.std.specs.Prelude.{ℕ, zero, suc, ◌+◌, ◌≤◌, ◌≡◌, refl, List, [], ◌∷◌, ◌++◌, map, take, drop}
use Rattle.std.proofs.Math.Path.{sym, ap}
use Rattle.std.proofs.Common.{◌∙◌, subst, append_assoc, ne_eqb, length-append, take_at, drop_at}
use native.Mathlib.Omega.{arith}
use Rattle.std.proofs.Math.ListN.{length, get_or}
use Rattle.limits.specs.Limits.{longest_frame, output_room}
use Rattle.lists.specs.Choice.Laws.{choose_no}
use Rattle.frame.specs.Message.{Message}
use Rattle.frame.specs.Encoding.{encode, over}
use Rattle.frame.proofs.Encoding.Laws.{length_over}
use Rattle.protocol.specs.declared.Base.{Base}
use Rattle.protocol.specs.declared.Outcome.{Outcome}
use Rattle.protocol.specs.Net.{call_refusal}
use Rattle.protocol.specs.Steps.{Answer, accepted, discarded, refused, Done, encode_all, lengths, outcome_with, output_of}
use Rattle.protocol.proofs.Steps.Answers.{Unchanged}
use Rattle.protocol.proofs.Steps.Output.{lengths_sum}
use Rattle.change.specs.Change.{DoesAs}
use Rattle.c_answers.specs.declared.CallAnswer.{CallAnswer}
use Rattle.c_answers.specs.Numbers.{outcome_numbers}
use Rattle.node.specs.declared.Node.{Node}
use Rattle.node_calls.specs.declared.NodeAnswer.{NodeAnswer}
use Rattle.node.specs.Node.{joined, joined_all, with_base, node_after}
use Rattle.protocol.proofs.Steps.Sizes.{length_encode}
use Rattle.node_calls.specs.Calls.{node_answer, Fitting, written_answer}
use Rattle.keeping.specs.Keeping.{kept_of, kept_from, AllFit, kept_three}
use Rattle.keeping.specs.Keeping.Laws.{kept_none, kept_three_lem}
use Rattle.node_calls.specs.Calls.Storable.{AllShort, Storable}

-- ---- three frames in an output
encoded_some : (m : Message) → length (encode m) ≡ 0 → ⊥
encoded_some m e = omega (arith, length_encode m)

kept_encoded : (v : Node) (m : Message) → kept_of v (encode m) ≡ joined v (encode m)
unfolding kept_of
kept_encoded v m = choose_no _ _ (ne_eqb (length (encode m)) 0 (encoded_some m))

-- the part p behind the front q
part_at : (q p r rest : List ℕ) (x y : ℕ) → length q ≡ x → length p ≡ y → take y (drop x ((q ++ (p ++ r)) ++ rest)) ≡ p
part_at q p r rest x y ex ey =
    rw (append_assoc q (p ++ r) rest, drop_at q ((p ++ r) ++ rest) x ex, append_assoc p r rest) (take_at p (r ++ rest) y ey)

parts : (v : Node) (p q r out : List ℕ)
    → kept_from v (over (p ++ (q ++ (r ++ []))) out) 0 (length p ∷ (length q ∷ (length r ∷ []))) ≡ kept_of (kept_of (kept_of v p) q) r
unfolding kept_from over
parts v p q r out = rw (one, two, three)
  where
    rest : List ℕ
    rest = drop (length (p ++ (q ++ (r ++ [])))) out

    one : take (length p) (drop 0 ((p ++ (q ++ (r ++ []))) ++ rest)) ≡ p
    one = part_at [] p (q ++ (r ++ [])) rest 0 (length p) refl refl

    two : take (length q) (drop (0 + length p) ((p ++ (q ++ (r ++ []))) ++ rest)) ≡ q
    two = part_at p q (r ++ []) rest (0 + length p) (length q) (omega arith) refl

    three : take (length r) (drop (0 + length p + length q) ((p ++ (q ++ (r ++ []))) ++ rest)) ≡ r
    three = ap (λ (l : List ℕ). take (length r) (drop (0 + length p + length q) (l ++ rest))) (sym (append_assoc p q (r ++ [])))
        ∙ part_at (p ++ q) r [] rest (0 + length p + length q) (length r) (omega (arith, length-append p q)) refl

no_more : (v : Node) → kept_of v [] ≡ v
no_more v = sym (kept_none v [] refl)

-- the lengths of the first three
abbrev three_of : List Message → List ℕ
three_of says = get_or (lengths says) 0 0 ∷ (get_or (lengths says) 1 0 ∷ (get_or (lengths says) 2 0 ∷ []))

three_joined : (v : Node) (says : List Message) (out : List ℕ) → length says ≤ 3
    → kept_from v (over (encode_all says) out) 0 (three_of says) ≡ joined_all v (map encode says)
unfolding encode_all lengths joined_all
three_joined v [] out h = parts v [] [] [] out ∙ no_more _ ∙ no_more _ ∙ no_more _
three_joined v (a ∷ []) out h = parts v (encode a) [] [] out ∙ no_more _ ∙ no_more _ ∙ kept_encoded _ a
three_joined v (a ∷ (c ∷ [])) out h = parts v (encode a) (encode c) [] out
    ∙ no_more _ ∙ kept_encoded _ c ∙ ap (λ (w : Node). joined w (encode c)) (kept_encoded _ a)
three_joined v (a ∷ (c ∷ (d ∷ []))) out h =
    parts v (encode a) (encode c) (encode d) out ∙ kept_encoded _ d
    ∙ ap (λ (w : Node). joined w (encode d)) (kept_encoded _ c ∙ ap (λ (w : Node). joined w (encode c)) (kept_encoded _ a))
three_joined v (a ∷ (c ∷ (d ∷ (e ∷ says)))) out h = absurd (omega arith)

no_lengths : (says : List Message) → says ≡ [] → (0 ∷ (0 ∷ (0 ∷ []))) ≡ three_of says
unfolding lengths
no_lengths says e = rw e

-- ---- a call
pub after_unchanged : (v : Node) (d : Done) → Unchanged v.base d → node_after v d ≡ v
unfolding node_after joined_all with_base
after_unchanged v d U = rw (U.says, U.base)

short_at : (says : List Message) (k : ℕ) → AllShort says → get_or (lengths says) k 0 ≤ longest_frame
unfolding lengths
short_at [] k p = omega arith
short_at (m ∷ says) zero p = p.0
short_at (m ∷ says) (suc k) p = short_at says k p.1

module _ (v : Node) (d : Done) (T : Storable v.base d) (out : List ℕ) (wide : length out ≡ output_room) where
  fit : AllFit (length (output_of d out)) 0 (three_of d.says)
  unfolding output_of
  fit = (
    short_at d.says 0 T.small,
    (
      omega (arith, all),
      (
        short_at d.says 1 T.small,
        (
          omega (arith, all),
          (short_at d.says 2 T.small, (omega (arith, all), tt)),
        ),
      ),
    ),
  )
    where
      all : get_or (lengths d.says) 0 0 + get_or (lengths d.says) 1 0 + get_or (lengths d.says) 2 0
          ≤ length (over (encode_all d.says) out)
      all = omega (
        arith,
        lengths_sum d.says T.brief.few,
        T.brief.small,
        length_over (encode_all d.says) out (omega (arith, T.brief.small)),
      )

  fitting_answer : (a : Answer) → Fitting (outcome_with d.base.own a d.says) (length (output_of d out))
  unfolding outcome_with outcome_numbers
  fitting_answer accepted = fit
  fitting_answer discarded = fit
  fitting_answer (refused r) = (omega arith, (omega arith, (omega arith, (omega arith, (omega arith, (omega arith, tt))))))

  joined_all_lem : kept_from (with_base v d.base) (output_of d out) 0 (three_of d.says) ≡ node_after v d
  unfolding node_after output_of
  joined_all_lem = three_joined (with_base v d.base) d.says out T.brief.few

  written_is_answer : (a : Answer) → d.answer ≡ a
      → written_answer v d.base (outcome_with d.base.own a d.says) (output_of d out)
      ≡ record { refusal = call_refusal a; node = node_after v d }
  unfolding outcome_with outcome_numbers written_answer call_refusal
  written_is_answer accepted e = ap (λ (w : Node). record { refusal = 0; node = w }) joined_all_lem
  written_is_answer discarded e = ap (λ (w : Node). record { refusal = 0; node = w }) joined_all_lem
  written_is_answer (refused r) e = ap (λ (w : Node). record { refusal = r; node = w })
      (ap (kept_from (with_base v d.base) (output_of d out) 0) (no_lengths d.says (T.down r e).says) ∙ joined_all_lem)

  pub call_fits : {o : Outcome} {left : Base} {written : List ℕ} → DoesAs (λ x. x) d o left out written → Fitting o (length written)
  call_fits D = rw (D.changes.outcome, D.written) (fitting_answer d.answer)

  pub call_answer : {o : Outcome} {left : Base} {written : List ℕ} {t : NodeAnswer}
      → DoesAs (λ x. x) d o left out written → t ≡ written_answer v left o written → t ≡ node_answer v d
  unfolding node_answer
  call_answer D t = t ∙ rw (D.changes.base, D.changes.outcome, D.written) (written_is_answer d.answer refl)

-- ---- an outcome as numbers
module _ (o : Outcome) {a : CallAnswer} (e : a ≡ outcome_numbers o) where
  numbers_fit : {room : ℕ} → Fitting o room → AllFit room 0 (a.first ∷ (a.second ∷ (a.third ∷ [])))
  numbers_fit {room} F = subst (λ (n : CallAnswer). AllFit room 0 (n.first ∷ (n.second ∷ (n.third ∷ [])))) (sym e) F

  pub numbers_answer : (v : Node) (out : List ℕ) → Fitting o (length out) → {b c : Base} {w : Node} → c ≡ b
      → w ≡ kept_three (with_base v c) out a.first a.second a.third
      → record { refusal = a.refusal; node = w } ≡ written_answer v b o out
  unfolding written_answer
  numbers_answer v out F d k = rw (k ∙ sym (kept_three_lem _ out _ _ _ (numbers_fit F)), d, e)
