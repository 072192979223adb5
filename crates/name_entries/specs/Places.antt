-- The word of a name of a sheet: the component (bits 0 to 7), the place (bits 8 to 15: 0 before the component, i + 1 inside it after i of its
-- tracks), the offset of the name in the store (bits 16 to 31) and its length (bits 32 to 39).
use Rattle.std.specs.Prelude.{ℕ, ◌+◌, ◌*◌, ◌/◌, ◌%◌}
use Rattle.name_entries.specs.declared.NamePlace.{NamePlace}

unfoldable pub name_word : ℕ → ℕ → ℕ → ℕ → ℕ
name_word component place offset length = component % 256 + place % 256 * 256 + offset % 65536 * 65536 + length % 256 * 4294967296

-- the word taken apart; any word gives a place
unfoldable pub name_place : ℕ → NamePlace
name_place w = record { component = w % 256; place = w / 256 % 256; offset = w / 65536 % 65536; length = w / 4294967296 % 256 }
