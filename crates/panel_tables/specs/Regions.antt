-- What is lent with a panel beside its line-name stores: one table of words and one of bytes, each made of regions one after the other.
-- Words: the columns' 12,480, the rows' 12,480, 128 of areas, 1,280 of placements. Bytes: the item marks of the columns, 30,000, and of
-- the rows, 2,048 of the names of areas, 32,768 of the names of placements.
use Rattle.std.specs.Prelude.{ℕ, List}
use Rattle.coordinates.specs.declared.axis.Axis.{Axis}
use Rattle.coordinates.specs.declared.axis.Axis.TheVariants.{Column, Row}
use Rattle.axis_tables.specs.Runs.{part_of}

abbrev pub panel_words : ℕ
panel_words = 26368

abbrev pub panel_bytes : ℕ
panel_bytes = 94816

-- where the words and the marks of an axis start
abbrev pub first_word : Axis → ℕ
first_word Column = 0
first_word Row = 12480

abbrev pub first_mark : Axis → ℕ
first_mark Column = 0
first_mark Row = 30000

-- the words of an axis, of the areas and of the placements
unfoldable pub axis_words_in : Axis → List ℕ → List ℕ
axis_words_in a words = part_of words (first_word a) 12480

unfoldable pub area_words_in : List ℕ → List ℕ
area_words_in words = part_of words 24960 128

unfoldable pub placement_words_in : List ℕ → List ℕ
placement_words_in words = part_of words 25088 1280

-- the item marks of an axis, the bytes of the names of areas and of placements
unfoldable pub marks_in : Axis → List ℕ → List ℕ
marks_in a bytes = part_of bytes (first_mark a) 30000

unfoldable pub area_bytes_in : List ℕ → List ℕ
area_bytes_in bytes = part_of bytes 60000 2048

unfoldable pub placement_bytes_in : List ℕ → List ℕ
placement_bytes_in bytes = part_of bytes 62048 32768
