use mathlib.Core.Path.{◌≡◌}
use mathlib.Core.List.{map}
use Prim.Native.Nat.{◌+◌}
use lib.ListN.{length, drop}
use lib.Seq.{sets}
use Rattle.name_template.specs.Writing.{written_from, written_entries, entry_word}
use Rattle.name_template.proofs.Walking.{Stands}
use Rattle.name_template.proofs.TemplateNames.write_all.Given as goal

abbrev pub invariant-loop-k : goal.invariant-loop-k
invariant-loop-k l =
    Stands l.self.names.now l.at l.line l.k
    × (length l.entries ≡ length l.initial.entries)
    × (l.count + length (written_from l.self.repetitions l.k l.line (drop l.at l.self.names.now) (drop l.k l.self.components.now)) ≡ length (written_entries l.self.names.now l.self.components.now l.self.repetitions))
    × (sets l.initial.entries 0 (map entry_word (written_entries l.self.names.now l.self.components.now l.self.repetitions)) ≡ sets l.entries l.count (map entry_word (written_from l.self.repetitions l.k l.line (drop l.at l.self.names.now) (drop l.k l.self.components.now))))
