-- Document 01, layer 4: a name that ends in the bytes `-start` or `-end`.
use Rattle.std.specs.Prelude.{◌-◌, Bool, cond, ◌&&◌, [], leb, length, take, drop, Option, Some, None}
use Rattle.name_rules.specs.Css.{Bytes, Side, start, end, suffix}
use Rattle.name_rules.specs.Rule.{eq_bytes}
use Rattle.name_lines.specs.declared.GridAreaEnd.{GridAreaEnd}
use Rattle.name_lines.specs.declared.GridAreaEnd.TheVariants.{Start, End}

-- whether a name ends in some bytes
abbrev pub ends_with : Bytes → Bytes → Bool
ends_with n s = leb (length s) (length n) && eq_bytes (drop (length n - length s) n) s

-- the edge that a name stands for
unfoldable pub edge_of : Bytes → Option GridAreaEnd
edge_of n = cond (ends_with n (suffix start)) (Some Start) (cond (ends_with n (suffix end)) (Some End) None)

-- the edge at a side
abbrev pub side_edge : Side → Option GridAreaEnd
side_edge start = Some Start
side_edge end = Some End

-- what stands after the stem of a name for an edge
abbrev pub tail_of : Option GridAreaEnd → Bytes
tail_of (Some Start) = suffix start
tail_of (Some End) = suffix end
tail_of None = []

-- the part of a name before it
abbrev pub stem_of : Bytes → Option GridAreaEnd → Bytes
stem_of n edge = take (length n - length (tail_of edge)) n
