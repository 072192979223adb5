use mathlib.Core.Path.{◌≡◌}
use mathlib.Core.List.{map}
use Prim.Native.Nat.{◌+◌, ◌-◌, ◌*◌}
use lib.ListN.{length}
use lib.Seq.{sets}
use Rattle.name_template.specs.Writing.{entry_word}
use Rattle.name_template.specs.Steps.{copies_on}
use Rattle.name_template.proofs.write_out.write_copies.Given as goal

abbrev pub invariant-loop-done : goal.invariant-loop-done
invariant-loop-done l =
    (length l.entries ≡ length l.initial.entries)
    × (l.count + (l.times - l.done) * length l.names ≡ l.times * length l.names)
    × (l.on + (l.times - l.done) * l.tracks ≡ l.line + l.times * l.tracks)
    × (sets l.initial.entries 0 (map entry_word (copies_on l.times l.line l.tracks l.names)) ≡ sets l.entries l.count (map entry_word (copies_on (l.times - l.done) l.on l.tracks l.names)))
