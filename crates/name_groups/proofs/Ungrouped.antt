-- Entries that are kept together are all looked at. Assumes nothing.
use mathlib.Core.Path.{◌≡◌}
use mathlib.Core.List.{List}
use Prim.Native.Nat.{ℕ, ◌-◌}
use native.Mathlib.Omega.{arith}
use borrow.Author.Tests.{le-ltb}
use lib.ListN.{length}
use lib.Seq.{take_all}
use Rattle.name_lines.proofs.Suffixes.{never}
use Rattle.name_groups.specs.declared.key.Grouping.TheVariants.{Whole}
use Rattle.name_groups.specs.Groups.{group_at, group_part, Grouped}

-- their group is all of them
pub whole_part : (entries : List ℕ) (key : ℕ) → group_part entries (group_at Whole entries key) ≡ entries
unfolding group_at group_part
whole_part entries key =
    rw (le-ltb (length entries) 0 (omega arith), le-ltb (length entries) (length entries) (omega arith))
    (take_all (length entries - 0) entries (omega arith))

pub whole_grouped : (entries store : List ℕ) → Grouped Whole entries store entries
unfolding group_at
whole_grouped entries store =
    record { whole = λ nm number. rw (whole_part entries _); lists = λ stem edge h. never h }
