-- What making an idle record answers: numbers 1 to 3, and the record.
use Rattle.std.specs.Prelude.{ℕ, eqb}
use Rattle.lists.specs.Choice.{choose}
use Rattle.protocol.specs.Sound.{setting_refusal, idle_base}
use Rattle.idle.specs.declared.Made.{Made}

-- where it is turned down, the record is that of no base: all zero
unfoldable pub made_of : ℕ → ℕ → ℕ → Made
made_of n t own =
    record { refusal = setting_refusal n t own; base = choose (eqb (setting_refusal n t own) 0) (idle_base n t own) (idle_base 0 0 0) }
