use mathlib.Core.Path.{◌≡◌}
use Prim.Native.Nat.{◌+◌, ◌*◌, ◌≤◌}
use Rattle.panel_calls.specs.Carried.{carried_to}
use Rattle.line_positions.specs.Steps.{walked_to}
use Rattle.panel_positions.specs.Cursor.{records_on}
use Rattle.panel_positions.proofs.walk.walked.Given as goal

abbrev pub invariant-loop-done : goal.invariant-loop-done
invariant-loop-done l =
    (l.done ≤ l.count) × (l.count ≤ 30000) × (l.at ≡ carried_to l.lent.grid l.lent.tables.now l.lent.items.now (2 * l.done + 1)) × (l.walk ≡ walked_to l.span l.inner (records_on l.lent.grid l.lent.tables.now l.lent.items.now) (2 * l.done + 1))
