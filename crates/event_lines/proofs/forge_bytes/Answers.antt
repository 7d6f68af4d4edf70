-- `event_lines::forge_bytes` meets its contract: the front of the array holds the bytes that stand in the schedule.
use native.Mathlib.Omega.{arith}
use Prim.Native.Nat.{ℕ, ◌≤◌}
use mathlib.Core.Path.{◌≡◌, sym, ap, ◌∙◌}
use mathlib.Core.List.{List}
use lib.ListN.{length, take, drop}
use lib.Seq.{length-take-le}
use Rattle.hexadecimal.specs.Hex.{hex_bytes}
use Rattle.hex_bytes.specs.Array.Laws.{length_hex, hex_front}
use Rattle.faulty_links.specs.Faulty.{pairs_of}
use Rattle.events.specs.Events.{forged_to}
use Rattle.event_lines.proofs.forge_bytes.Goals as goal

pub slice_bounds-bytes-end : goal.slice_bounds-bytes-end
slice_bounds-bytes-end c =
    let a = c.args in
    omega (arith, c.requires.0, ap length c.hex_array-bytes.ensures, length_hex a.s.now a.at a.count)

pub slice_bounds-forge-end : goal.slice_bounds-forge-end
slice_bounds-forge-end c = let room : c.args.count ≤ length c.hex_array-bytes.result =
    omega (arith, c.requires.0, ap length c.hex_array-bytes.ensures, length_hex c.args.s.now c.args.at c.args.count) in
    sym (length-take-le _ _ room)

pub returns : goal.returns
returns c = let bytes_are : take c.args.count c.hex_array-bytes.result ≡ hex_bytes c.args.count (drop c.args.at c.args.s.now) =
    ap (take c.args.count) c.hex_array-bytes.ensures ∙ hex_front c.args.s.now c.args.at c.args.count c.requires.0 c.requires.1 in
    c.forge.ensures ∙ ap (λ (l : List ℕ).
    forged_to c.args.receiver (pairs_of c.args.faulty)
    c.args.a c.args.b l) bytes_are
