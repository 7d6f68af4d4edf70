-- The version of include/roster.h, which counts up with every change of a record, an answer, a call or a number there.
use Rattle.std.specs.Prelude.{ℕ}

abbrev pub version : ℕ
version = 2
