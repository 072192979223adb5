-- A rectangle whose lines have 16 bits is read back from its word. Assumes nothing.
use mathlib.Core.Path.{◌≡◌}
use Prim.Native.Nat.{ℕ, ◌+◌, ◌*◌, ◌/◌, ◌%◌, ◌<◌}
use native.Mathlib.Omega.{arith}
use native.Mathlib.Nat.{mod-lt}
use Rattle.coordinates.specs.Types.{LinePair}
use Rattle.free_cells.specs.declared.Rectangle.{Rectangle}
use Rattle.free_cells.specs.Words.{lines_of, lines_word, rectangle_of, rectangle_word}

-- lines of 16 bits
pub record Small (l : LinePair) : Type 0 where
  pub start : l.start < 65536
  pub end : l.end < 65536

module _ (a b c d : ℕ) (p : a < 65536) (q : b < 65536) (r : c < 65536) (s : d < 65536) where
  abbrev whole : ℕ
  whole = a % 65536 + b % 65536 * 65536 + (c % 65536 + d % 65536 * 65536) * 4294967296

  first-line : whole % 65536 ≡ a
  first-line = omega arith

  second-line : whole / 65536 % 65536 ≡ b
  second-line = omega arith

  third-line : whole / 4294967296 % 65536 ≡ c
  third-line = omega arith

  fourth-line : whole / 4294967296 / 65536 % 65536 ≡ d
  fourth-line = omega arith

pub rectangle_back : (r : Rectangle) → Small r.columns → Small r.rows → rectangle_of (rectangle_word r) ≡ r
unfolding rectangle_of rectangle_word lines_of lines_word
rectangle_back r x y =
    let a = r.columns.start in
    let b = r.columns.end in
    let c = r.rows.start in
    let d = r.rows.end in
    rw (
      first-line a b c d x.start x.end y.start y.end,
      second-line a b c d x.start x.end y.start y.end,
      third-line a b c d x.start x.end y.start y.end,
      fourth-line a b c d x.start x.end y.start y.end,
    )

-- lines that are read from a word
pub read_small : (w : ℕ) → Small (lines_of w)
unfolding lines_of
read_small w = record { start = mod-lt w {m = 65536} (omega arith); end = mod-lt (w / 65536) {m = 65536} (omega arith) }

pub rectangle_small : (w : ℕ) → Small (rectangle_of w).columns × Small (rectangle_of w).rows
unfolding rectangle_of
rectangle_small w = (read_small w, read_small (w / 4294967296))
