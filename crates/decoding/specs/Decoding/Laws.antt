-- The array of a body's identifiers, filled one after another, and what it holds of a burst's body.
use Rattle.std.specs.Prelude.{ℕ, ◌+◌, ◌*◌, ◌/◌, ◌<◌, min, ◌≡◌, List, length, take, drop, set}
use Rattle.std.proofs.Common.{sym, ap, ◌∙◌, add-one, arith}
use Rattle.limits.specs.Limits.{most_bases}
use Rattle.lists.specs.Lists.{pad_to}
use Rattle.lists.specs.Lists.Laws.{length_pad, pad_front, pad_next}
use Rattle.frame.specs.Reading.{count_byte, body_of, identifier, identifiers, ids_in}
use Rattle.frame.specs.Reading.Laws.{Framed}
use Rattle.frame.proofs.Reading.Laws.{length_identifiers, length_ids_in, identifiers_snoc, length_body_of}
use Rattle.decoding.specs.Decoding.{id_array}

pub array_next : (i : ℕ) (s : List ℕ) → i < most_bases
    → set (pad_to most_bases (identifiers i s)) i (identifier (drop (4 * i) s)) ≡ pad_to most_bases (identifiers (i + 1) s)
array_next i s h =
    pad_next most_bases (identifiers i s) i (identifier (drop (4 * i) s)) (length_identifiers i s) h
    ∙ ap (pad_to most_bases) (sym (identifiers_snoc i s) ∙ ap (λ (j : ℕ). identifiers j s) (sym (add-one i)))

-- where no more identifiers stand, or fit, the array is whole
pub array_whole : (i : ℕ) (s : List ℕ) → min most_bases (length s / 4) ≡ i → pad_to most_bases (identifiers i s) ≡ id_array s
unfolding id_array
array_whole i s e = ap (λ (k : ℕ). pad_to most_bases (identifiers k s)) (sym e)

pub length_array : (s : List ℕ) → length (id_array s) ≡ most_bases
unfolding id_array
length_array s =
    length_pad most_bases (identifiers (min most_bases (length s / 4)) s) (omega (
      arith,
      length_identifiers (min most_bases (length s / 4)) s,
    ))

-- a body's array holds the burst's identifiers
pub array_of : (s : List ℕ) → Framed s → id_array (body_of s) ≡ pad_to most_bases (ids_in s)
unfolding ids_in
array_of s F = sym (array_whole (count_byte s) (body_of s) (omega (arith, length_body_of s F, F.few)))

pub array_front : (s : List ℕ) → Framed s → take (count_byte s) (id_array (body_of s)) ≡ ids_in s
array_front s F = ap (take (count_byte s)) (array_of s F) ∙ pad_front most_bases (ids_in s) (count_byte s) (length_ids_in s)
