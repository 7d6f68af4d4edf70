-- The net after a header that is not turned down: n bases, t and at most t faulty links, idle records whose identifiers are above
-- zero and different.
use Rattle.std.specs.Prelude.{ℕ, zero, suc, ◌^◌, ◌≤◌, ◌<◌, ◌≡◌, refl, Bool, true, false, not, List, [], ◌∷◌, eqb, leb, length}
use Rattle.std.proofs.Common.{sym, ap, ◌∙◌, subst, arith, eqb-true, leb-false, length-append}
use Rattle.std.proofs.lemmas.Bool.{eqb-false}
use Rattle.limits.specs.Limits.{most_bases, most_faulty}
use Rattle.limits.specs.Refusals.{size_refusal, own_refusal, NetSize}
use Rattle.limits.specs.Refusals.Laws.{size_passed, own_passed}
use Rattle.lists.specs.Choice.{choose}
use Rattle.lists.specs.Choice.Laws.{choose_ind, choose_yes, choose_no, first_passed, passed, or_false}
use Rattle.text.specs.Number.Range.{Field}
use Rattle.lines.specs.Lines.{net_line, id_line, faulty_line}
use Rattle.lines.specs.Lines.Found.{number_ind, two_ind, TwoFound, FaultyFound, net_found, id_found, faulty_found}
use Rattle.protocol.specs.Sound.{idle_base}
use Rattle.protocol.specs.Net.{Net, Pair, good, replaced}
use Rattle.protocol.specs.Agreement.{BaseOf, Setting, Fresh}
use Rattle.protocol.proofs.Agreement.Inner.Moves.{replaced_here, replaced_other}
use Rattle.protocol.specs.Agreement.Premise.{idle_net}
use Rattle.protocol.proofs.Agreement.Premise.{idle_fresh}
use Rattle.schedule.specs.Header.{owned, id_refusal, faulty_refusal}
use Rattle.schedule.specs.Walk.{header_walk, mark_step, net_step, id_step, id_steps, faulty_step}
use Rattle.schedule.specs.Meaning.{Progress, unread, onward, with_size, with_id, with_faulty, header, scheduled}
use Rattle.schedule.proofs.Meaning.Laws.{refuse_unrefused, judged_unrefused, unless_unrefused}
use Rattle.schedule.proofs.Walk.Laws.{Unrefused, repeat_ind}
use Rattle.schedule.specs.Meaning.Begins.{with_ids}

-- the bases 1 to k have identifiers of 32 bits above zero, different at each
pub record Named (k : ℕ) (id : ℕ → ℕ) : Type 0 where
  pub range : (b : ℕ) → BaseOf k b → (1 ≤ id b) × (id b < 2 ^ 32)
  pub different : (a b : ℕ) → BaseOf k a → BaseOf k b → id a ≡ id b → a ≡ b

-- the header so far, with the identifiers of the bases 1 to k
pub record Begins (k : ℕ) (st : Progress) : Type 0 where
  pub size : NetSize st.n
  pub limit : st.t ≤ most_faulty st.n
  pub few_faulty : length st.faulty ≤ st.t
  pub id : ℕ → ℕ
  pub named : Named k id
  pub net : st.net ≡ idle_net st.n st.t id

-- ---- `net n t`
sized_begins : (n t next : ℕ) → NetSize n → t ≤ most_faulty n → Begins 0 (with_size n t (onward next unread))
unfolding with_size onward unread
sized_begins n t next size limit = record {
  size = size;
  limit = limit;
  few_faulty = omega arith;
  id = λ b. 0;
  named = record {
    range = λ b B. absurd (omega (arith, B.least, B.most));
    different = λ a b A B e. absurd (omega (arith, A.least, A.most));
  };
  net = refl;
}

pub net_begins : (s : List ℕ) → Unrefused scheduled (Begins 0) (net_step scheduled s unread)
unfolding net_step
net_begins s =
    two_ind (Unrefused scheduled (Begins 0)) (net_line s unread.at)
    (TwoFound unread.at) (net_found s unread.at) (refuse_unrefused (Begins 0) 13 unread (λ e. omega arith))
    (λ n t next found. judged_unrefused (Begins 0) (size_refusal n t)
    unread (with_size n t (onward next unread)) (λ e _. let p = size_passed n t e in sized_begins n t next p.0 p.1))

-- ---- `id b v`
-- none of the bases 1 to k has the identifier v
free : (k : ℕ) (W : Net) (v : ℕ) → owned k W v ≡ false → (b : ℕ) → BaseOf k b → (W.base b).own ≡ v → ⊥
unfolding owned
free zero W v e b B q = omega (arith, B.least, B.most)
free (suc k) W v e b B q = cases (eqb b (suc k)) refl (λ C. free k W v (or_false (eqb (W.base (suc k)).own v) (owned k W v) e).1 b C q)
  where
    cases : (x : Bool) → eqb b (suc k) ≡ x → (BaseOf k b → ⊥) → ⊥
    cases true y rest =
        eqb-false (W.base (suc k)).own v (or_false (eqb (W.base (suc k)).own v) (owned k W v) e).0
        (subst (λ (z : ℕ). (W.base z).own ≡ v) (eqb-true b (suc k) y) q)
    cases false y rest = rest (record { least = B.least; most = omega (arith, B.most, eqb-false b (suc k) y) })

-- one identifier more
named_more : (k v : ℕ) (id : ℕ → ℕ)
    → Named k id → 1 ≤ v → v < 2 ^ 32 → ((b : ℕ) → BaseOf k b → id b ≡ v → ⊥) → Named (suc k) (replaced (suc k) v id)
named_more k v id N some word new = record { range = range; different = different }
  where
    here : (b : ℕ) → b ≡ suc k → replaced (suc k) v id b ≡ v
    here b e = ap (replaced (suc k) v id) e ∙ replaced_here (suc k) v id

    there : (b : ℕ) → (b ≡ suc k → ⊥) → replaced (suc k) v id b ≡ id b
    there b e = replaced_other (suc k) v id b e

    below : (b : ℕ) → BaseOf (suc k) b → (b ≡ suc k → ⊥) → BaseOf k b
    below b B e = record { least = B.least; most = omega (arith, B.most) }

    range : (b : ℕ) → BaseOf (suc k) b → (1 ≤ replaced (suc k) v id b) × (replaced (suc k) v id b < 2 ^ 32)
    range b B = cases (eqb b (suc k)) refl
      where
        cases : (x : Bool) → eqb b (suc k) ≡ x → (1 ≤ replaced (suc k) v id b) × (replaced (suc k) v id b < 2 ^ 32)
        cases true y = subst (λ (z : ℕ). (1 ≤ z) × (z < 2 ^ 32)) (sym (here b (eqb-true b (suc k) y))) (some, word)
        cases false y = let e = eqb-false b (suc k) y in
            subst (λ (z : ℕ). (1 ≤ z) × (z < 2 ^ 32)) (sym (there b e)) (N.range b (below b B e))

    different : (a b : ℕ) → BaseOf (suc k) a → BaseOf (suc k) b → replaced (suc k) v id a ≡ replaced (suc k) v id b → a ≡ b
    different a b A B q = cases (eqb a (suc k)) refl (eqb b (suc k)) refl
      where
        cases : (x : Bool) → eqb a (suc k) ≡ x → (y : Bool) → eqb b (suc k) ≡ y → a ≡ b
        cases true e true f = eqb-true a (suc k) e ∙ sym (eqb-true b (suc k) f)
        cases true e false f = absurd
            (new b (below b B (eqb-false b (suc k) f)) (sym (there b (eqb-false b (suc k) f)) ∙ sym q ∙ here a (eqb-true a (suc k) e)))
        cases false e true f = absurd
            (new a (below a A (eqb-false a (suc k) e)) (sym (there a (eqb-false a (suc k) e)) ∙ q ∙ here b (eqb-true b (suc k) f)))
        cases false e false f =
            N.different a b (below a A (eqb-false a (suc k) e))
            (below b B (eqb-false b (suc k) f)) (sym (there a (eqb-false a (suc k) e)) ∙ q ∙ there b (eqb-false b (suc k) f))

-- the idle records with one identifier more
pub idle_replaced : (n t b v : ℕ) (id : ℕ → ℕ) (y : ℕ)
    → replaced b (idle_base n t v) (λ x. idle_base n t (id x)) y ≡ idle_base n t (replaced b v id y)
unfolding replaced
idle_replaced n t b v id y =
    choose_ind (λ (z : ℕ). choose (eqb y b) (idle_base n t v) (idle_base n t (id y)) ≡ idle_base n t z)
    (eqb y b) (λ e. choose_yes _ _ e) (λ e. choose_no _ _ e)

named_idle : (n t b v : ℕ) (id : ℕ → ℕ)
    → ◌≡◌ {A = Net} (record {
      base = replaced b (idle_base n t v) (idle_net n t id).base;
      log = (idle_net n t id).log;
      carried = (idle_net n t id).carried;
    }) (idle_net n t (replaced b v id))
unfolding idle_net
named_idle n t b v id = λ i. record { base = λ y. idle_replaced n t b v id y i; log = λ y. []; carried = λ x y z. false }

pub named_net_lem : (n t b v : ℕ) (id : ℕ → ℕ) (W : Net) → W ≡ idle_net n t id
    → ◌≡◌ {A = Net} (record { base = replaced b (idle_base n t v) W.base; log = W.log; carried = W.carried })
    (idle_net n t (replaced b v id))
named_net_lem n t b v id W e =
    ap (λ (x : Net). record { base = replaced b (idle_base n t v) x.base; log = x.log; carried = x.carried }) e ∙ named_idle n t b v id

-- the header of a net of m bases, with the identifiers of the bases 1 to k
abbrev Given : ℕ → ℕ → Progress → Type 0
Given m k st = Begins k st × (st.n ≡ m)

id_passed : (W : Net) (v : ℕ) → id_refusal W v ≡ 0 → (1 ≤ v) × (owned most_bases W v ≡ false)
unfolding id_refusal
id_passed W v e =
    let p = first_passed (own_refusal v) (choose (owned most_bases W v) 14 0) e in
    (own_passed v p.0, (passed (owned most_bases W v) 13 0 p.1).0)

named_begins : (m k v next : ℕ) (st : Progress)
    → suc k ≤ m → v < 2 ^ 32 → id_refusal st.net v ≡ 0 → Given m k st → Given m (suc k) (with_id (suc k) v (onward next st))
unfolding with_id onward
named_begins m k v next st l word e g =
    let B = g.0 in
    let p = id_passed st.net v e in
    let own : (b : ℕ) → (st.net.base b).own ≡ B.id b = λ b. ap (λ (W : Net). (W.base b).own) B.net
    ∙ (unfold idle_net idle_base in refl) in
    let new : (b : ℕ) → BaseOf k b → B.id b ≡ v → ⊥ =
    λ b C q. free most_bases st.net
    v p.1 b (record { least = C.least; most = omega (arith, C.most, g.1, B.size.most) }) (own b ∙ q) in (
      record {
        size = B.size;
        limit = B.limit;
        few_faulty = B.few_faulty;
        id = replaced (suc k) v B.id;
        named = named_more k v B.id B.named p.0 word new;
        net = named_net_lem st.n st.t (suc k) v B.id st.net B.net;
      },
      g.1,
    )

id_begins : (s : List ℕ) (m k : ℕ) (st : Progress)
    → suc k ≤ m → Unrefused scheduled (Given m k) st → Unrefused scheduled (Given m (suc k)) (id_step scheduled s (suc k) st)
unfolding id_step
id_begins s m k st l before =
    unless_unrefused (Given m (suc k)) st _ (λ none.
    number_ind (Unrefused scheduled (Given m (suc k))) (id_line (suc k) s st.at)
    (Field st.at) (id_found (suc k) s st.at) (refuse_unrefused (Given m (suc k)) 13 st (λ e. omega arith))
    (λ v next f. judged_unrefused (Given m (suc k)) (id_refusal st.net v) st (with_id (suc k) v (onward next st))
    (λ e _. named_begins m k v next st l (omega (arith, f.0)) e (before none))))

ids_begin : (s : List ℕ) (m k : ℕ) (st : Progress) → k ≤ m → Unrefused scheduled (Given m 0) st
    → Unrefused scheduled (Given m k) (id_steps scheduled s k st)
unfolding id_steps
ids_begin s m zero st l before = before
ids_begin s m (suc k) st l before = id_begins s m k (id_steps scheduled s k st) l (ids_begin s m k st (omega arith) before)

-- ---- `faulty a b`
-- every base has its identifier
abbrev pub Whole : Progress → Type 0
Whole st = Begins st.n st

pub faulty_passed : (t : ℕ) (faulty : List Pair) → faulty_refusal t faulty ≡ 0 → length faulty < t
unfolding faulty_refusal
faulty_passed t faulty e = leb-false t (length faulty) (passed (leb t (length faulty)) 14 0 e).0

marked_begins : (a b next : ℕ) (st : Progress) → faulty_refusal st.t st.faulty ≡ 0 → Whole st → Whole (with_faulty a b (onward next st))
unfolding with_faulty onward
marked_begins a b next st e B = record {
  size = B.size;
  limit = B.limit;
  few_faulty = omega (arith, length-append st.faulty (record { one = a; other = b } ∷ []), faulty_passed st.t st.faulty e);
  id = B.id;
  named = B.named;
  net = B.net;
}

mark_begins : (a b next : ℕ) (st : Progress) → Whole st → Unrefused scheduled Whole (mark_step scheduled a b next st)
unfolding mark_step
mark_begins a b next st B =
    choose_ind (Unrefused scheduled Whole) (not (good st.faulty a b)) (λ _. refuse_unrefused Whole 13 st (λ e. omega arith))
    (λ _. judged_unrefused Whole (faulty_refusal st.t st.faulty) st (with_faulty a b (onward next st))
    (λ e _. marked_begins a b next st e B))

pub faulty_begins : (s : List ℕ) (st : Progress) → Unrefused scheduled Whole st → Unrefused scheduled Whole (faulty_step scheduled s st)
unfolding faulty_step
faulty_begins s st before =
    unless_unrefused Whole st _ (λ none.
    two_ind (Unrefused scheduled Whole) (faulty_line st.n s st.at) (FaultyFound st.n st.at)
    (faulty_found st.n s st.at) before
    (λ a b next _. mark_begins a b next st (before none)))

pub ids_whole : (s : List ℕ) → Unrefused scheduled Whole (with_ids s)
ids_whole s e =
    let sized = net_step scheduled s unread in
    let g = ids_begin s sized.n sized.n sized (omega arith) (λ q. (net_begins s q, refl)) e in
    subst (λ (k : ℕ). Begins k (with_ids s)) (sym g.1) g.0

pub header_begins : (s : List ℕ) → Unrefused scheduled Whole (header s)
unfolding header_walk
header_begins s =
    let ids = with_ids s in
    repeat_ind (Unrefused scheduled Whole) (faulty_step scheduled s) (λ st p. faulty_begins s st p) (suc ids.t) ids (ids_whole s)

-- ---- what agreement asks of the beginning
pub begins_setting : (st : Progress) → Whole st → Setting st.n st.t st.faulty
begins_setting st B = record { size = B.size; limit = B.limit; few_faulty = B.few_faulty }

pub begins_fresh : (st : Progress) → Whole st → Fresh st.n st.t st.net
begins_fresh st B =
    subst (λ (W : Net). Fresh st.n st.t W) (sym B.net)
    (idle_fresh st.n st.t B.id B.size B.limit B.named.range B.named.different)
