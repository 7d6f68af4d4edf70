-- `bursts::trailer_refusal` meets its contract: the three checks stand in the order of the definition. After number 9 the count byte is the
-- one expected, so the length of the kind's frame is 4 × count + 4.
-- numbers 8 and 9 are asked of the trailer's kind and count
use mathlib.Core.Path.{◌≡◌, sym, ap, ◌∙◌}
use native.Mathlib.Omega.{arith}
use Rattle.lists.specs.Choice.Laws.{first_none, first_given}
use Rattle.frame.specs.Reading.{from_end, kind_byte, count_byte, kind_refusal, trailer_refusal}
use Rattle.frame.proofs.Reading.Laws.{length_passed, kind_size}
use Rattle.bursts.proofs.trailer_refusal.Goals as goal

pub returns-then-length-ne0 : goal.returns-then-length-ne0
unfolding trailer_refusal
returns-then-length-ne0 c = let e = c.length_refusal-length.ensures in e ∙ sym (first_given _ (λ z. c.if-length-ne0.true (e ∙ z)))

pub overflow_sub-kind : goal.overflow_sub-kind
overflow_sub-kind c = omega (arith, length_passed _ (sym c.length_refusal-length.ensures ∙ c.if-length-ne0.false))

pub bounds-burst-len : goal.bounds-burst-len
bounds-burst-len c = omega (arith, length_passed _ (sym c.length_refusal-length.ensures ∙ c.if-length-ne0.false))

pub overflow_sub-len : goal.overflow_sub-len
overflow_sub-len c = omega (arith, length_passed _ (sym c.length_refusal-length.ensures ∙ c.if-length-ne0.false))

pub bounds-burst-len-2 : goal.bounds-burst-len-2
bounds-burst-len-2 c =
    let length-refusal = c.length_refusal-length in
    omega (arith, length_passed _ (sym length-refusal.ensures ∙ c.if-length-ne0.false))

pub returns-then-number-ne0 : goal.returns-then-number-ne0
unfolding trailer_refusal kind_byte count_byte from_end
returns-then-number-ne0 c = let of_the_trailer : let a = c.args in
    c.kind_refusal-number.result ≡ kind_refusal a.n (kind_byte a.burst.now) (count_byte a.burst.now) = let a = c.args in
    c.kind_refusal-number.ensures ∙ ap (kind_refusal a.n _) c.wide.ensures in
    let length-refusal = c.length_refusal-length in
    let z = sym length-refusal.ensures ∙ c.if-length-ne0.false in
    let e = of_the_trailer in e ∙ sym (first_none _ z ∙ first_given _ (λ q. c.if-number-ne0.true (e ∙ q)))

pub distance_refusal-requires : goal.distance_refusal-requires
unfolding kind_byte from_end count_byte
distance_refusal-requires c = let of_the_trailer : let a = c.args in
    c.kind_refusal-number.result ≡ kind_refusal a.n (kind_byte a.burst.now) (count_byte a.burst.now) = let a = c.args in
    c.kind_refusal-number.ensures ∙ ap (kind_refusal a.n _) c.wide.ensures in
    let a = c.args in
    let length-refusal = c.length_refusal-length in
    let z = sym length-refusal.ensures ∙ c.if-length-ne0.false in
    let s = a.burst.now in
    let e = kind_size a.n (kind_byte s) (count_byte s) (sym of_the_trailer ∙ c.if-number-ne0.false) in
    ((length_passed s z).0, c.length_of.ensures ∙ e)

pub returns : goal.returns
unfolding trailer_refusal kind_byte count_byte from_end
returns c = let of_the_trailer : let a = c.args in
    c.kind_refusal-number.result ≡ kind_refusal a.n (kind_byte a.burst.now) (count_byte a.burst.now) = let a = c.args in
    c.kind_refusal-number.ensures ∙ ap (kind_refusal a.n _) c.wide.ensures in
    let length-refusal = c.length_refusal-length in
    let z = sym length-refusal.ensures ∙ c.if-length-ne0.false in
    c.distance_refusal.ensures ∙ sym (first_none _ z ∙ first_none _ (sym of_the_trailer ∙ c.if-number-ne0.false))
