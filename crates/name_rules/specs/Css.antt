-- CSS Grid Level 2, 8.3, line-based placement: the line that each end of an item comes to. Nothing here says how a line is found
-- (SHEET.md, Placements).
-- Lines are origin-zero: 0 is the first explicit line, the explicit count is the last, all others are implicit. The number of a
-- line in the name book is one more. Document 01 adds that each line is held within 10,000 of the first as it is found.
use Rattle.std.specs.Prelude.{◌≡◌, ◌⊎◌, ℕ, zero, suc, pred, ◌≤◌, ◌<◌, ℤ, pos, negsuc, ◌+ℤ◌, ◌-ℤ◌}
use mathlib.Core.List.{List, [], ◌∷◌, ◌++◌, Memᴰ}
use Rattle.coordinates.specs.Lines.{held, to_origin_zero, to_grid_line}

-- 7.2, `<custom-ident>`: a name, by its bytes
abbrev pub Bytes : Type 0
Bytes = List ℕ

-- 7.2: a name given to a line, that is one entry of the name book; lines are numbered from 1
pub record Entry : Type 0 where
  pub line : ℕ
  pub name : Bytes

-- 7.3: a drawn area as one axis sees it, by the numbers of its two edge lines
pub record Area : Type 0 where
  pub name : Bytes
  pub from : ℕ
  pub to : ℕ

-- 8.3: the two ends of an item, and of an area, in an axis
pub data Side : Type 0 where
  start end : Side

-- 7.3: the bytes of `-start` and of `-end`
abbrev pub suffix : Side → Bytes
suffix start = 45 ∷ 115 ∷ 116 ∷ 97 ∷ 114 ∷ 116 ∷ []
suffix end = 45 ∷ 101 ∷ 110 ∷ 100 ∷ []

-- 7.3: the number of an area's edge line
abbrev pub edge : Area → Side → ℕ
edge a start = a.from
edge a end = a.to

-- 7.1 to 7.3: all that names the lines of one axis: the count of explicit tracks, the entries, the drawn areas
pub record AxisNames : Type 0 where
  pub explicit : ℕ
  pub book : List Entry
  pub areas : List Area

-- 7.2 and 7.3: a line has a name by an entry, or as the edge of a drawn area: area foo gives foo-start and foo-end
-- (SHEET.md, Area edges and suffixes)
pub data Named (x : AxisNames) (nm : Bytes) (number : ℕ) : Type 0 where
  written : (e : Entry) → Memᴰ e x.book → e.line ≡ number → e.name ≡ nm → Named x nm number
  drawn : (a : Area) (s : Side) → Memᴰ a x.areas → edge a s ≡ number → a.name ++ suffix s ≡ nm → Named x nm number

-- 8.3: the two ways to count lines, towards the end edge and towards the start edge of the grid
pub data Way : Type 0 where
  endward startward : Way

-- 8.3: the line at distance k from line l
abbrev pub along : Way → ℤ → ℕ → ℤ
along endward l k = l +ℤ pos k
along startward l k = l -ℤ pos k

-- 8.3: a count takes the explicit lines that have the name, and every implicit line on the side that it goes to
abbrev pub Counts : AxisNames → Bytes → Way → ℤ → Type 0
Counts x nm endward (pos l) = ((l ≤ x.explicit) × Named x nm (suc l)) ⊎ (x.explicit < l)
Counts x nm endward (negsuc l) = ⊥
Counts x nm startward (pos l) = (l ≤ x.explicit) × Named x nm (suc l)
Counts x nm startward (negsuc l) = Unit {0}

-- l is the first number from f on at which B holds
pub record Nearest (B : ℕ → Type 0) (f l : ℕ) : Type 0 where
  pub reached : f ≤ l
  pub holds : B l
  pub none : (k : ℕ) → f ≤ k → k < l → B k → ⊥

-- l is the n-th number from f on at which B holds
abbrev pub Nth : (ℕ → Type 0) → ℕ → ℕ → ℕ → Type 0
Nth B f zero l = ⊥
Nth B f (suc zero) l = Nearest B f l
Nth B f (suc (suc n)) l = (m : ℕ) × Nearest B f m × Nth B (suc m) (suc n) l

-- 8.3: l is the n-th line counted from line s: s itself may be counted where f is 0, and its neighbour comes first where f is 1
pub record CountsTo (x : AxisNames) (nm : Bytes) (w : Way) (s : ℤ) (f n : ℕ) (l : ℤ) : Type 0 where
  pub distance : ℕ
  pub there : along w s distance ≡ l
  pub nth : Nth (λ k. Counts x nm w (along w s k)) f n distance

-- 8.3, `<custom-ident>` and `<integer> && <custom-ident>`: the line of a name with a number; 0 where no number is written.
-- edged: a name alone is the first line of NAME-start for a start, NAME-end for an end. bare: if there is none, as with number 1.
-- index: a positive number counts from the start edge of the explicit grid. back: a negative one counts from its end edge
-- (SHEET.md, Lines by index).
pub data CssFound (x : AxisNames) (nm : Bytes) (s : Side) : ℤ → ℤ → Type 0 where
  edged : (l : ℕ) → Nearest (λ k. Named x (nm ++ suffix s) (suc k)) 0 l → CssFound x nm s (pos zero) (pos l)
  bare : (l : ℤ) → ((k : ℕ) → Named x (nm ++ suffix s) (suc k) → ⊥) → CountsTo x nm endward (pos zero) 0 1 l → CssFound x nm s (pos zero) l
  index : (i : ℕ) (l : ℤ) → CountsTo x nm endward (pos zero) 0 (suc i) l → CssFound x nm s (pos (suc i)) l
  back : (i : ℕ) (l : ℤ) → CountsTo x nm startward (pos x.explicit) 0 (suc i) l → CssFound x nm s (negsuc i) l

-- that line, held
pub record CssLine (x : AxisNames) (nm : Bytes) (s : Side) (i h : ℤ) : Type 0 where
  pub line : ℤ
  pub found : CssFound x nm s i line
  pub limited : h ≡ held line

-- 8.3, `span && <integer> && <custom-ident>`: the line of a named span beside line o, held; a span of 0 is read as 1
-- (SHEET.md, Named spans)
pub record CssSpan (x : AxisNames) (nm : Bytes) (w : Way) (o : ℤ) (n : ℕ) (h : ℤ) : Type 0 where
  pub line : ℤ
  pub counted : CountsTo x nm w o 1 (suc (pred n)) line
  pub limited : h ≡ held line

-- 8.3: what one end of an item says: nothing, a line, a name with a number, a span of tracks, a span of named lines
pub data Placement : Type 0 where
  auto : Placement
  line : ℤ → Placement
  named : Bytes → ℤ → Placement
  span : ℕ → Placement
  nspan : Bytes → ℕ → Placement

-- 8.3: what an end comes to: nothing, a grid line, a span of tracks
pub data Resolved : Type 0 where
  free : Resolved
  at_line : ℤ → Resolved
  spanning : ℕ → Resolved

-- 8.3: what both ends come to
pub record ResolvedEnds : Type 0 where
  pub first : Resolved
  pub last : Resolved

-- 8.3: the opposite end
abbrev pub other : Side → Side
other start = end
other end = start

-- 8.3: a span goes away from the opposite end, so a start's is counted startward
abbrev pub way : Side → Way
way start = startward
way end = endward

-- 8.3: the line that an end is on: that of its number, which is not 0, or that of its name
pub data HasLine (x : AxisNames) (s : Side) : Placement → ℤ → Type 0 where
  numbered : (g : ℤ) → (g ≡ pos 0 → ⊥) → HasLine x s (line g) (to_origin_zero x.explicit g)
  by_name : (nm : Bytes) (i l : ℤ) → CssLine x nm s i l → HasLine x s (named nm i) l

-- 8.3: an end that is on no line
abbrev pub NoLine : Placement → Type 0
NoLine auto = Unit {0}
NoLine (line g) = ⊥
NoLine (named nm i) = ⊥
NoLine (span n) = Unit {0}
NoLine (nspan nm n) = Unit {0}

-- 8.3: what one end comes to beside the other. A named line and a named span beside a line become grid lines; a named span
-- beside no line becomes span 1; all else stays as written
pub data ResolvesTo (x : AxisNames) (s : Side) (beside : Placement) : Placement → Resolved → Type 0 where
  left_auto : ResolvesTo x s beside auto free
  left_line : (g : ℤ) → ResolvesTo x s beside (line g) (at_line g)
  left_span : (n : ℕ) → ResolvesTo x s beside (span n) (spanning n)
  to_line : (nm : Bytes) (i l : ℤ) → CssLine x nm s i l → ResolvesTo x s beside (named nm i) (at_line (to_grid_line x.explicit l))
  to_span : (nm : Bytes) (n : ℕ) (o h : ℤ) → HasLine x (other s) beside o → CssSpan x nm (way s) o n h
      → ResolvesTo x s beside (nspan nm n) (at_line (to_grid_line x.explicit h))
  to_one : (nm : Bytes) (n : ℕ) → NoLine beside → ResolvesTo x s beside (nspan nm n) (spanning 1)

-- 8.3: what CSS makes of both ends of a placement
pub record CssEnds (x : AxisNames) (p q : Placement) (r : ResolvedEnds) : Type 0 where
  pub first : ResolvesTo x start q p r.first
  pub last : ResolvesTo x end p q r.last
