-- CSS Grid Level 1, 8.3.1, conflicts between the two ends of an item, for a cell of document 02, Req 10: where it lies in one axis, from its
-- settled ends. An axis has n explicit tracks; its lines are numbered from 1 to the last that a cell may reach. Nothing here says how an
-- end is settled (name_rules), nor where a cell without a line goes (cell_placing).
use Rattle.std.specs.Prelude.{◌≡◌, ℕ, zero, suc, ◌+◌, ◌≤◌, ◌<◌, max, ℤ, pos, negsuc, ◌+ℤ◌, ◌-ℤ◌, Option, Some, None}
use Rattle.name_rules.specs.Css.{Resolved, free, at_line, spanning, ResolvedEnds}
use Rattle.name_rules.specs.CssOrder.{OrderedLines}
use Rattle.cell_sides.specs.declared.Side.{Side}
use Rattle.cell_sides.specs.declared.Side.TheVariants.{Free}
use Rattle.cell_sides.specs.Types.{fixed}

-- 8.3: an end of an item is auto, a line or a span
pub data End : Type 0 where
  auto : End
  line : ℤ → End
  span : ℕ → End

-- 8.3 and 7.1: grid line g > 0 is line g, g < 0 is line n + 2 + g, neither held again; "line 0 counts as auto". A span of 0, which no
-- sheet has, is read as 1
abbrev pub end_of : ℕ → Resolved → End
end_of n free = auto
end_of n (at_line (pos zero)) = auto
end_of n (at_line (pos (suc g))) = line (pos (suc g))
end_of n (at_line (negsuc g)) = line (negsuc g +ℤ pos (n + 2))
end_of n (spanning k) = span (max 1 k)

-- where an item lies: from a line to a line, or, without a line, anywhere over so many tracks
pub data Extent : Type 0 where
  between : ℤ → ℤ → Extent
  automatic : ℕ → Extent

-- 8.3.1, by start and end
pub data CssExtent : End → End → Extent → Type 0 where
  -- two lines: reversed ones are swapped, of two equal ones the end is dropped
  two_lines_lem : {s e lo hi : ℤ} → OrderedLines s e lo hi → CssExtent (line s) (line e) (between lo hi)
  -- a line and a span: the span is counted from the line in its end's own direction
  span_ahead : {s : ℤ} {k : ℕ} → CssExtent (line s) (span k) (between s (s +ℤ pos k))
  span_back : {k : ℕ} {e : ℤ} → CssExtent (span k) (line e) (between (e -ℤ pos k) e)
  -- a line alone: one track
  start_alone : {s : ℤ} → CssExtent (line s) auto (between s (s +ℤ pos 1))
  end_alone : {e : ℤ} → CssExtent auto (line e) (between (e -ℤ pos 1) e)
  -- two spans: the end's is dropped
  two_spans : {k j : ℕ} → CssExtent (span k) (span j) (automatic k)
  -- a span alone, or nothing: automatic, over that span, else one track
  start_span : {k : ℕ} → CssExtent (span k) auto (automatic k)
  end_span : {k : ℕ} → CssExtent auto (span k) (automatic k)
  nothing : CssExtent auto auto (automatic 1)

-- lines lo and hi have numbers a and b among 1 to last
pub record Among (last : ℕ) (lo hi : ℤ) (a b : ℕ) : Type 0 where
  pub low : pos a ≡ lo
  pub high : pos b ≡ hi
  pub first : 1 ≤ a
  pub order : a < b
  pub final : b ≤ last

-- the side of an extent: its two lines, where they are among the axis's lines; else there is none
pub data SideOf (last : ℕ) : Extent → Option Side → Type 0 where
  inside : {lo hi : ℤ} {a b : ℕ} → Among last lo hi a b → SideOf last (between lo hi) (Some (fixed a b))
  leaves : {lo hi : ℤ} → ((a b : ℕ) → Among last lo hi a b → ⊥) → SideOf last (between lo hi) None
  anywhere : {k : ℕ} → SideOf last (automatic k) (Some (Free k))

-- the side of a cell from its settled ends
pub record CssSide (n last : ℕ) (r : ResolvedEnds) (side : Option Side) : Type 0 where
  pub extent : Extent
  pub lies : CssExtent (end_of n r.first) (end_of n r.last) extent
  pub is : SideOf last extent side
