-- A history with one event more at its end.
use Rattle.std.specs.Prelude.{ℕ, ◌≡◌, refl, List, [], ◌∷◌, ◌++◌}
use Rattle.protocol.specs.Net.{Net, Pair, Event, happens, run}
use Rattle.protocol.specs.Agreement.{Proper, AllProper}

pub run_more : (faulty : List Pair) (W : Net) (es : List Event) (e : Event)
    → run faulty W (es ++ (e ∷ [])) ≡ happens faulty (run faulty W es) e
unfolding run
run_more faulty W [] e = refl
run_more faulty W (x ∷ es) e = run_more faulty (happens faulty W x) es e

pub proper_more : (n : ℕ) (es : List Event) (e : Event) → AllProper n es → Proper n e → AllProper n (es ++ (e ∷ []))
proper_more n [] e p q = (q, tt)
proper_more n (x ∷ es) e p q = (p.0, proper_more n es e p.1 q)
