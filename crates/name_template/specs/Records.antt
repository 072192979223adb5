-- Name records as words, in sheet order: the component (bits 0 to 7), the place (bits 8 to 15: 0 before the component, i + 1 inside it
-- after i of its tracks), the offset of the name in the store (bits 16 to 31) and its length (bits 32 to 39).
use Rattle.std.specs.Prelude.{ℕ, suc, ◌+◌, ◌*◌, Bool, cond, ◌&&◌, List, [], ◌∷◌, eqb, ltb, take, drop}
use Rattle.name_entries.specs.Places.{name_place}

-- the word of a record
abbrev pub record_word : ℕ → ℕ → ℕ → ℕ → ℕ
record_word component place offset length = component + place * 256 + offset * 65536 + length * 4294967296

-- whether a record stands before component k, or inside it
unfoldable pub stands : Bool → ℕ → ℕ → Bool
stands inside k w = eqb (name_place w).component k && cond inside (ltb 0 (name_place w).place) (eqb (name_place w).place 0)

-- how many of the first records stand there
unfoldable pub leading : Bool → ℕ → List ℕ → ℕ
leading inside k [] = 0
leading inside k (w ∷ l) = cond (stands inside k w) (suc (leading inside k l)) 0

-- the names before component k, or inside it, and the records after those
abbrev pub names_at : Bool → ℕ → List ℕ → List ℕ
names_at inside k names = take (leading inside k names) names

abbrev pub names_after : Bool → ℕ → List ℕ → List ℕ
names_after inside k names = drop (leading inside k names) names
