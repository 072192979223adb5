-- The fields of a line that was cut once.
use Rattle.std.specs.Prelude.{ℕ, ◌≡◌, ◌<◌, List, length, replicate, Option, Some, None}
use Rattle.std.proofs.lemmas.List.Edits.{sets}
use Rattle.text.specs.Split.{split}
use Rattle.text.specs.Places.{fields_by, starts_from}
use Rattle.sheet_lines.specs.declared.fields.Fields.{Fields}
use Rattle.sheet_lines.specs.declared.kinds.LineKind.{LineKind}
use Rattle.sheet_lines.specs.declared.kinds.LineKind.TheVariants.{Axis, Area, Name, Track, Repeat, End, Spare, Extra, Item, Place, Row, Cell}

-- the fields themselves
abbrev pub fields_of : Fields → List (List ℕ)
fields_of f = fields_by f.starts f.line.now f.count

-- a line is cut at its tabs: at the starts of its parts, as far as there is room for them
pub record CutAs (text : List ℕ) (f : Fields) : Type 0 where
  pub line : f.line.now ≡ text
  pub count : f.count ≡ length (split 9 text)
  pub some : 0 < f.count
  pub starts : f.starts ≡ sets (replicate 15 0) 0 (starts_from 0 (split 9 text))

-- the number of a kind of line in the order of `kind_words`, and their number where a line is of none
abbrev pub line_kind_number : Option LineKind → ℕ
line_kind_number (Some Axis) = 0
line_kind_number (Some Area) = 1
line_kind_number (Some Name) = 2
line_kind_number (Some Track) = 3
line_kind_number (Some Repeat) = 4
line_kind_number (Some End) = 5
line_kind_number (Some Spare) = 6
line_kind_number (Some Extra) = 7
line_kind_number (Some Item) = 8
line_kind_number (Some Place) = 9
line_kind_number (Some Row) = 10
line_kind_number (Some Cell) = 11
line_kind_number None = 12
