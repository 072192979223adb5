use mathlib.Core.Path.{◌≡◌}
use mathlib.Core.List.{map}
use lib.ListN.{length, drop}
use lib.Seq.{sets}
use Rattle.name_template.specs.Writing.{entries_on, entry_word}
use Rattle.name_template.proofs.write_out.write_once.Given as goal

abbrev pub invariant-loop-j : goal.invariant-loop-j
invariant-loop-j l =
    (length l.entries ≡ length l.initial.entries)
    × (sets l.initial.entries 0 (map entry_word (entries_on l.line l.names)) ≡ sets l.entries l.j (map entry_word (entries_on l.line (drop l.j l.names))))
