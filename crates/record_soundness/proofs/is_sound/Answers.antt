-- `record_soundness::is_sound` meets its contract: the rules, each link looked at once.
use Prim.Native.Nat.{ℕ}
use mathlib.Core.Path.{◌≡◌, sym, ap, ◌∙◌}
use mathlib.Core.Bool.{true}
use lib.Dec.{eqb, leb}
use borrow.Author.Tests.{le-leb, lt-leb}
use Rattle.limits.specs.Limits.{most_links}
use Rattle.lists.specs.Choice.{choose}
use Rattle.lists.specs.Choice.Laws.{and_fails, and_goes_on}
use Rattle.counting.specs.Sums.{all}
use Rattle.protocol.specs.Record.{link_at}
use Rattle.protocol.specs.Sound.{place_sound}
use Rattle.record_soundness.proofs.Flat.{sound_flat}
use Rattle.record_soundness.proofs.is_sound.Goals as goal

pub returns-then-base-gt-SECONDARY : goal.returns-then-base-gt-SECONDARY
returns-then-base-gt-SECONDARY c = and_fails _ (lt-leb _ _ c.if-base-gt-SECONDARY.true) ∙ sym (sound_flat _)

pub returns-then-not-sent_sound : goal.returns-then-not-sent_sound
returns-then-not-sent_sound c = let state : leb c.args.base.state 3 ≡ true = le-leb _ _ c.if-base-gt-SECONDARY.false in
    and_goes_on state (and_fails _ (sym c.sent_sound.ensures ∙ c.if-not-sent_sound.true))
    ∙ sym (sound_flat _)

pub returns-then-not-links_sound : goal.returns-then-not-links_sound
returns-then-not-links_sound c = let state : leb c.args.base.state 3 ≡ true = le-leb _ _ c.if-base-gt-SECONDARY.false in
    let sent : let b = c.args.base in
    choose (eqb b.state 0) (eqb b.sent 0) (leb b.sent 1) ≡ true = sym c.sent_sound.ensures ∙ c.if-not-sent_sound.false in
    let links : let b = c.args.base in
    c.links_sound.result ≡ all most_links (λ i. place_sound (choose (eqb b.state 0) 1 b.n) i (link_at b i)) = let b = c.args.base in
    c.links_sound.ensures ∙ ap (λ (n : ℕ). all most_links (λ i. place_sound n i (link_at b i))) c.heard_size.ensures in
    and_goes_on state (and_goes_on sent
    (and_fails _ (sym links ∙ c.if-not-links_sound.true))) ∙ sym (sound_flat _)

pub returns-then-not-announces_sound : goal.returns-then-not-announces_sound
returns-then-not-announces_sound c = let state : leb c.args.base.state 3 ≡ true = le-leb _ _ c.if-base-gt-SECONDARY.false in
    let sent : let b = c.args.base in
    choose (eqb b.state 0) (eqb b.sent 0) (leb b.sent 1) ≡ true = sym c.sent_sound.ensures ∙ c.if-not-sent_sound.false in
    let links : let b = c.args.base in
    c.links_sound.result ≡ all most_links (λ i. place_sound (choose (eqb b.state 0) 1 b.n) i (link_at b i)) = let b = c.args.base in
    c.links_sound.ensures ∙ ap (λ (n : ℕ). all most_links (λ i. place_sound n i (link_at b i))) c.heard_size.ensures in
    and_goes_on state (and_goes_on sent
    (and_goes_on (sym links ∙ c.if-not-links_sound.false)
    (and_fails _ (sym c.announces_sound.ensures ∙ c.if-not-announces_sound.true)))) ∙ sym (sound_flat _)

pub returns : goal.returns
returns c = let state : leb c.args.base.state 3 ≡ true = le-leb _ _ c.if-base-gt-SECONDARY.false in
    let sent : let b = c.args.base in
    choose (eqb b.state 0) (eqb b.sent 0) (leb b.sent 1) ≡ true = sym c.sent_sound.ensures ∙ c.if-not-sent_sound.false in
    let links : let b = c.args.base in
    c.links_sound.result ≡ all most_links (λ i. place_sound (choose (eqb b.state 0) 1 b.n) i (link_at b i)) = let b = c.args.base in
    c.links_sound.ensures ∙ ap (λ (n : ℕ). all most_links (λ i. place_sound n i (link_at b i))) c.heard_size.ensures in
    and_goes_on state (and_goes_on sent
    (and_goes_on (sym links ∙ c.if-not-links_sound.false)
    (and_goes_on (sym c.announces_sound.ensures ∙ c.if-not-announces_sound.false) c.final_sound.ensures)))
    ∙ sym (sound_flat _)
