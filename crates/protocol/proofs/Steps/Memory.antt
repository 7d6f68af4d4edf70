-- Every call keeps what a record in memory has: its arrays' lengths, and identifiers of 32 bits.
use Rattle.std.specs.Prelude.{ℕ, ◌^◌, ◌≤◌, ◌<◌, List, length}
use Rattle.std.proofs.Common.{sym, ap, ◌∙◌, subst, arith, length-set}
use Rattle.limits.specs.Limits.{most_bases, most_links}
use Rattle.lists.specs.Lists.{Below}
use Rattle.lists.specs.Lists.Laws.{length_pad}
use Rattle.frame.specs.Message.{Message, ids_of}
use Rattle.protocol.specs.declared.Link.{Link}
use Rattle.protocol.specs.declared.Base.{Base}
use Rattle.protocol.specs.Record.{link_at}
use Rattle.protocol.specs.Record.Memory.{SizedLink, Sized, Words}
use Rattle.protocol.specs.Steps.{accepts, with_state, with_final, with_announce, with_verify, with_vector, stops}
use Rattle.protocol.specs.Steps.Cases.{begun}
use Rattle.protocol.proofs.Steps.Cases.{Takes, takes_announce, takes_verify, takes_correct, takes_and_votes, takes_verify_final}
use Rattle.protocol.proofs.Steps.Laws.{takes_rest, changed, takes_each}

-- ---- lengths
changed_sized : {b : Base} {i : ℕ} {m : Message} {c : Base} {said : List Message} (T : Takes b i m c said) → length (ids_of m) ≤ most_bases
    → SizedLink (link_at b i) → SizedLink (changed T)
unfolding changed with_announce with_verify with_vector ids_of
changed_sized (takes_announce g p q r) h S = record { verifies = S.verifies; list = S.list }
changed_sized {b} {i} (takes_verify g p q) h S =
    record { verifies = length-set (link_at b i).verifies (link_at b i).verify_count g ∙ S.verifies; list = S.list }
changed_sized (takes_correct v o p) h S = record { verifies = S.verifies; list = length_pad most_bases v h }
changed_sized (takes_and_votes v o p) h S = record { verifies = S.verifies; list = length_pad most_bases v h }
changed_sized (takes_verify_final v o) h S = record { verifies = S.verifies; list = length_pad most_bases v h }

pub takes_sized : {b : Base} {i : ℕ} {m : Message} {c : Base} {said : List Message} → Takes b i m c said → i < most_links
    → length (ids_of m) ≤ most_bases → Sized b → Sized c
takes_sized {i = i} T here h S = record {
  final = ap length (takes_rest T).final ∙ S.final;
  links = (takes_rest T).places ∙ S.links;
  each =
      takes_each (λ (j : ℕ) (l : Link). SizedLink l) most_links T (omega (arith, S.links)) (changed_sized T h (S.each i here)) S.each;
}

pub stops_sized : (c : Base) (state : ℕ) (v : List ℕ) (said : List Message) → length v ≤ most_bases → Sized c
    → Sized (stops c state v said).base
unfolding stops accepts with_state with_final link_at
stops_sized c state v said h S = record { final = length_pad most_bases v h; links = S.links; each = S.each }

pub begun_sized : (b : Base) → Sized b → Sized (begun b)
unfolding with_state link_at
begun_sized b S = record { final = S.final; links = S.links; each = S.each }

-- ---- identifiers
changed_word : {b : Base} {i : ℕ} {m : Message} {c : Base} {said : List Message} (T : Takes b i m c said) → Below (2 ^ 32) (ids_of m)
    → (link_at b i).announce < 2 ^ 32 → (changed T).announce < 2 ^ 32
unfolding changed with_announce with_verify with_vector ids_of
changed_word (takes_announce g p q r) h w = h 0
changed_word (takes_verify g p q) h w = w
changed_word (takes_correct v o p) h w = w
changed_word (takes_and_votes v o p) h w = w
changed_word (takes_verify_final v o) h w = w

pub takes_words : {b : Base} {i : ℕ} {m : Message} {c : Base} {said : List Message} → Takes b i m c said → i < most_links
    → Below (2 ^ 32) (ids_of m) → Sized b → Words b → Words c
takes_words {i = i} T here h S W = record {
  own = subst (λ (x : ℕ). x < 2 ^ 32) (sym (takes_rest T).setting.own) W.own;
  announced = takes_each (λ (j : ℕ) (l : Link). l.announce < 2 ^ 32) most_links T (omega (arith, S.links))
      (changed_word T h (W.announced i here)) W.announced;
}

pub stops_words : (c : Base) (state : ℕ) (v : List ℕ) (said : List Message) → Words c → Words (stops c state v said).base
unfolding stops accepts with_state with_final link_at
stops_words c state v said W = record { own = W.own; announced = W.announced }

pub begun_words : (b : Base) → Words b → Words (begun b)
unfolding with_state link_at
begun_words b W = record { own = W.own; announced = W.announced }
