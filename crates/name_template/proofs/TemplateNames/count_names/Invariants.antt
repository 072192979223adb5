use mathlib.Core.Path.{◌≡◌}
use Prim.Native.Nat.{◌+◌, ◌≤◌, min}
use lib.ListN.{length, drop}
use Rattle.name_template.specs.Writing.{written_from, written_entries}
use Rattle.name_template.proofs.Walking.{Stands}
use Rattle.name_template.proofs.TemplateNames.count_names.Given as goal

abbrev pub invariant-loop-k : goal.invariant-loop-k
invariant-loop-k l =
    Stands l.self.names.now l.at l.line l.k
    × (l.count ≤ 4097)
    × (min 4097 (l.count + length (written_from l.self.repetitions l.k l.line (drop l.at l.self.names.now) (drop l.k l.self.components.now))) ≡ min 4097 (length (written_entries l.self.names.now l.self.components.now l.self.repetitions)))
