-- A rectangle of cells as a word: column start + column end · 2^16 + row start · 2^32 + row end · 2^48.
use Rattle.std.specs.Prelude.{ℕ, ◌+◌, ◌*◌, ◌/◌, ◌%◌, List, get_or}
use Rattle.coordinates.specs.Types.{LinePair}
use Rattle.free_cells.specs.declared.Rectangle.{Rectangle}

unfoldable pub lines_of : ℕ → LinePair
lines_of w = record { start = w % 65536; end = w / 65536 % 65536 }

unfoldable pub rectangle_of : ℕ → Rectangle
rectangle_of w = record { columns = lines_of w; rows = lines_of (w / 4294967296) }

unfoldable pub lines_word : LinePair → ℕ
lines_word l = l.start % 65536 + l.end % 65536 * 65536

unfoldable pub rectangle_word : Rectangle → ℕ
rectangle_word r = lines_word r.columns + lines_word r.rows * 4294967296

-- rectangle i of a list of words; past its end, and where a word is 0, it has no cell
abbrev pub rectangle_in : List ℕ → ℕ → Rectangle
rectangle_in words i = rectangle_of (get_or words i 0)
