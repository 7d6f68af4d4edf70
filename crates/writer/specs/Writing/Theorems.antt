-- What a write that is not turned down writes is the encoding of a valid message, and nothing past the length that it answers is touched.
-- So with frame's read_after_write it is read back, behind any preamble with which it fits, as that message.
use Rattle.std.specs.Prelude.{ℕ, ◌^◌, ◌≡◌, refl, List, eqb, length, drop}
use Rattle.std.proofs.Math.Path.{sym}
use Rattle.std.proofs.Common.{ap, ap₂, ◌∙◌, subst, arith, eqb-true}
use Rattle.lists.specs.Choice.Laws.{choose_ind}
use Rattle.lists.specs.Lists.{nonzero, ascending, Below}
use Rattle.frame.specs.Message.{kind_of, ids_of, expected, length_of, Valid}
use Rattle.frame.proofs.Message.Laws.{known_is}
use Rattle.frame.specs.Encoding.{frame_of, encode}
use Rattle.frame.proofs.Encoding.Laws.{length_frame, over_past}
use Rattle.frame.specs.Slots.{size_of}
use Rattle.frame.specs.Reading.{message}
use Rattle.frame.proofs.Reading.Laws.{list_passed}
use Rattle.frame.proofs.Reading.Theorems.{parts_message}
use Rattle.writer.specs.Writing.{write_refusal, write_output}
use Rattle.writer.specs.Writing.Laws.{write_passed}

module _ (n kind : ℕ) (ids : List ℕ) (room : ℕ) (words : Below (2 ^ 32) ids) (none : write_refusal n kind ids room ≡ 0) where
  parts : (kind_of (message kind ids) ≡ kind) × (ids_of (message kind ids) ≡ ids)
  parts = let P = write_passed n kind ids room none in parts_message kind n ids (known_is kind P.kind_known) P.count

  pub written_valid : Valid n (message kind ids)
  written_valid =
      let P = write_passed n kind ids room none in
      let L = list_passed ids P.list in
      record {
        count = ap length parts.1 ∙ P.count ∙ ap (λ (k : ℕ). expected k n) (sym parts.0);
        above_zero = ap nonzero parts.1 ∙ L.0;
        ascends = ap ascending parts.1 ∙ L.1;
        words = subst (Below (2 ^ 32)) (sym parts.1) words;
      }

  pub written_encodes : frame_of kind ids ≡ encode (message kind ids)
  unfolding encode
  written_encodes = sym (ap₂ frame_of parts.0 parts.1)

  -- the size that is answered is that of the frame
  pub written_size : size_of (length_of kind n) ≡ size_of (length (frame_of kind ids))
  written_size = ap size_of ((write_passed n kind ids room none).size ∙ sym (length_frame kind ids))

-- refused or not, the output past the length of the kind's frame is as it was
pub write_past : (n kind : ℕ) (ids output : List ℕ)
    → drop (length_of kind n) (write_output n kind ids output) ≡ drop (length_of kind n) output
unfolding write_output
write_past n kind ids output =
    choose_ind (λ (after : List ℕ). drop (length_of kind n) after ≡ drop (length_of kind n) output)
    (eqb (write_refusal n kind ids (length output)) 0)
    (λ e. let P = write_passed n kind ids (length output) (eqb-true _ 0 e) in over_past (frame_of kind ids) output (length_of kind n)
    (omega (arith, length_frame kind ids, P.size)))
    (λ _. refl)
