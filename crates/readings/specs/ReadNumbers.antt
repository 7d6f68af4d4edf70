-- What reading a burst answers, as numbers. Document 01: "Each returns its number".
use Rattle.std.specs.Prelude.{ℕ, List}
use Rattle.reader.specs.declared.Reading.{Reading}
use Rattle.reader.specs.declared.Reading.TheVariants as reads
use Rattle.readings.specs.declared.ReadAnswer.{ReadAnswer}

-- with the identifiers of the stretch, none of a refused burst
unfoldable pub read_numbers : Reading → List ℕ → ReadAnswer
read_numbers (reads.Message kind count start) ids = record { refusal = 0; kind = kind; count = count; start = start; ids = ids }
read_numbers (reads.Refused r) ids = record { refusal = r; kind = 0; count = 0; start = 0; ids = ids }
