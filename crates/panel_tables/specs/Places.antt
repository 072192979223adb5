-- The place of a name among the areas of the table, whatever it holds.
use Rattle.std.specs.Prelude.{ℕ, zero, suc, min, List, cond, ltb, Option, Some, None}
use Rattle.text.specs.Split.{same}
use Rattle.panel_tables.specs.Areas.{area_name}

-- the first of `left` areas from k on that has that name; the one after them where none has
unfoldable pub seek_in : List ℕ → List ℕ → List ℕ → ℕ → ℕ → ℕ
seek_in words bytes n k zero = k
seek_in words bytes n k (suc left) = cond (same (area_name words bytes k) n) k (seek_in words bytes n (suc k) left)

-- the table has places for 64
abbrev pub area_index_in : ℕ → List ℕ → List ℕ → List ℕ → ℕ
area_index_in areas words bytes n = seek_in words bytes n 0 (min areas 64)

-- none where none has it
abbrev pub area_place_in : ℕ → List ℕ → List ℕ → List ℕ → Option ℕ
area_place_in areas words bytes n = cond (ltb (area_index_in areas words bytes n) (min areas 64)) (Some (area_index_in areas words bytes n)) None
