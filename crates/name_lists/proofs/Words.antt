-- The word of an entry's name, by the length of that name.
use Prim.Native.Nat.{ℕ, ◌<◌}
use native.Mathlib.Omega.{arith}
use Rattle.name_entries.specs.declared.NameEntry.{NameEntry}
use Rattle.name_entries.specs.Entries.{entry_of}

-- the numbers of an entry are small
pub record Small (e : NameEntry) : Type 0 where
  pub line : e.line < 65536
  pub offset : e.offset < 65536
  pub length : e.length < 256

pub small-entry : (word : ℕ) → Small (entry_of word)
unfolding entry_of
small-entry word = record { line = omega arith; offset = omega arith; length = omega arith }
