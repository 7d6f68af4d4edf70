-- What taking a message in does to the certified identifiers: an Announce adds its
-- identifier, and no other message changes them. So they stay different.
use Rattle.std.specs.Prelude.{ℕ, ◌-◌, ◌≤◌, ◌<◌, min, ◌≡◌, refl, ◌≢◌, true, false, List, ◌∷◌, length}
use Rattle.std.proofs.Common.{sym, ap, ap₂, ◌∙◌}
use Rattle.std.proofs.lemmas.Bool.{eqb-false}
use Rattle.limits.specs.Limits.{most_links}
use Rattle.lists.specs.Choice.Laws.{or_false}
use Rattle.lists.specs.Lists.{member, distinct, nonzero}
use Rattle.lists.specs.Lists.Sets.{Inserted, there, inserted_distinct, nonzero_one}
use Rattle.frame.specs.Message.{Message, announce, ids_of}
use Rattle.protocol.specs.declared.Link.{Link}
use Rattle.protocol.specs.declared.Base.{Base}
use Rattle.protocol.specs.Links.{announces}
use Rattle.protocol.specs.Record.{link_at, link_count, announced, certified}
use Rattle.protocol.proofs.Record.Announced.{announced_same, announced_more}
use Rattle.protocol.specs.Steps.{with_link, with_announce, with_verify, with_vector}
use Rattle.protocol.proofs.Steps.Cases.{Takes, takes_announce, takes_verify, takes_correct, takes_and_votes, takes_verify_final}
use Rattle.protocol.proofs.Steps.Laws.{stored_same, stored_other, takes_rest, changed, takes_each}

-- one that is not certified is another's
pub uncertified_other : (b : Base) (g : ℕ) → member g (certified b) ≡ false → g ≢ b.own
unfolding certified member
uncertified_other b g e p = eqb-false b.own g (or_false _ _ e).0 (sym p)

-- the identifiers announced at a base's links
abbrev pub announced_to : Base → List ℕ
announced_to b = announced (link_count b) (link_at b)

-- what a message adds to them
pub data Adds (b c : Base) : Message → Type 0 where
  adds_one : {g : ℕ} → member g (certified b) ≡ false → Inserted g (announced_to b) (announced_to c) → Adds b c (announce g)
  adds_none : {m : Message} → announced_to c ≡ announced_to b → Adds b c m

-- where the link that the message came on announces what it did before
pub announced_kept : {b : Base} {i : ℕ} {m : Message} {c : Base} {said : List Message} (T : Takes b i m c said) → i < length b.links
    → (changed T).announce ≡ (link_at b i).announce → announced_to c ≡ announced_to b
unfolding link_count
announced_kept {b} {c = c} T h e =
    ap (λ (n : ℕ). announced (min (n - 1) most_links) (link_at c)) (takes_rest T).setting.n
    ∙ announced_same (link_count b) (link_at b) (link_at c)
    (takes_each (λ (j : ℕ) (l : Link). l.announce ≡ (link_at b j).announce) (link_count b) T h e (λ j _. refl))

-- where it announces one that it did not
pub announced_added : (b : Base) (i g : ℕ) → i < link_count b → i < length b.links → 1 ≤ g → announces (link_at b i) ≡ false
    → Inserted g (announced_to b) (announced_to (with_link b i (with_announce (link_at b i) g)))
unfolding with_announce with_link link_count
announced_added b i g below h some silent =
    announced_more (link_count b) (link_at b) (link_at (with_link b i (with_announce (link_at b i) g))) i
    g below silent some (ap (λ (l : Link). l.announce) (stored_same b i _ h)) (stored_other b i _)

pub takes_adds : {b : Base} {i : ℕ} {m : Message} {c : Base} {said : List Message} → Takes b i m c said → i < link_count b
    → i < length b.links → nonzero (ids_of m) ≡ true → Adds b c m
unfolding changed with_verify with_vector ids_of
takes_adds {b} {i} (takes_announce g p q r) below h some = adds_one q (announced_added b i g below h (nonzero_one g some) p)
takes_adds (takes_verify g p q) below h some = adds_none (announced_kept (takes_verify g p q) h refl)
takes_adds (takes_correct v o p) below h some = adds_none (announced_kept (takes_correct v o p) h refl)
takes_adds (takes_and_votes v o p) below h some = adds_none (announced_kept (takes_and_votes v o p) h refl)
takes_adds (takes_verify_final v o) below h some = adds_none (announced_kept (takes_verify_final v o) h refl)

-- the certified ones stay different
pub adds_apart : {b c : Base} {m : Message} → c.own ≡ b.own → Adds b c m → distinct (certified b) ≡ true → distinct (certified c) ≡ true
unfolding certified
adds_apart {b} {c} own (adds_one {g = g} new I) d = ap (λ (x : ℕ). distinct (x ∷ announced_to c)) own ∙ inserted_distinct (there I) d new
adds_apart {b} {c} own (adds_none e) d = ap₂ (λ (x : ℕ) (l : List ℕ). distinct (x ∷ l)) own e ∙ d
