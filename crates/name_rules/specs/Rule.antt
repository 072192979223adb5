-- The rule of named.rs: `resolve_line_names` and what it calls. Which lines have a name is a predicate, so a line counts once, and
-- neither the order of entries nor how they are kept plays a part.
use Rattle.std.specs.Prelude.{Bool, true, false, ◌&&◌, ◌||◌, List, ◌++◌, ℕ, zero, suc, pred, ◌+◌, ◌-◌, max, min, ℤ, pos, negsuc, ◌+ℤ◌, ◌-ℤ◌, eqb}
use Rattle.coordinates.specs.Lines.{held, outside, uncut, to_grid_line}
use Rattle.std.specs.List.{list_any}
use Rattle.std.specs.Str.{bytes_eq}
use Rattle.name_rules.specs.Css.{Bytes, Entry, Area, Side, start, end, other, suffix, AxisNames}
use Rattle.name_rules.specs.CssMarks.{HeldEnds}
use Rattle.name_rules.specs.Css.{Placement, auto, line, named, span, nspan, Resolved, free, at_line, spanning, ResolvedEnds}

-- a number found, or how many marked ones were still to be passed over
pub data Seek : Type 0 where
  at : ℕ → Seek
  left : ℕ → Seek

-- at number f, marked or not: it is the one sought where none is still to be passed over
abbrev pub onward : Bool → ℕ → ℕ → (ℕ → Seek) → Seek
onward false f m go = go m
onward true f zero go = at f
onward true f (suc m) go = go m

-- pass over m marked numbers among the k from f on, and answer the next
unfoldable pub seek : (ℕ → Bool) → ℕ → ℕ → ℕ → Seek
seek p zero f m = left m
seek p (suc k) f m = onward (p f) f m (λ j. seek p k (suc f) j)

-- the number found, where counting goes on at e with every number
abbrev pub settle : ℕ → Seek → ℕ
settle e (at l) = l
settle e (left m) = e + m

-- a list has an element that passes the test
abbrev pub any : {A : Type 0} → (A → Bool) → List A → Bool
any = list_any

-- two names are the same
abbrev pub eq_bytes : Bytes → Bytes → Bool
eq_bytes = bytes_eq

-- an entry gives a line its name
abbrev pub written? : Bytes → ℕ → Entry → Bool
written? nm number e = eqb e.line number && eq_bytes e.name nm

-- the edges of a drawn area are lines of foo-start and foo-end
abbrev pub drawn? : Bytes → ℕ → Area → Bool
drawn? nm number a =
    (eqb a.from number && eq_bytes (a.name ++ suffix start) nm) || (eqb a.to number && eq_bytes (a.name ++ suffix end) nm)

-- a line has a name
unfoldable pub named? : AxisNames → Bytes → ℕ → Bool
named? x nm number = any (written? nm number) x.book || any (drawn? nm number) x.areas

-- no line past number 20,000 has a name: entered lines end there, and the names of templates sooner (`rule_lies`)
abbrev pub top : ℕ
top = 20000

-- `nth_line_forwards` for n = m + 1: the lines not before f that p marks, then every line after the last explicit one, or from f on
module _ (explicit : ℕ) (p : ℕ → Bool) where
  abbrev pub up_from : ℕ → ℕ → ℕ
  up_from f m = settle (max f (suc explicit)) (seek p (top - f) f m)

  -- a line before the first counts as the first
  abbrev pub forwards : ℤ → ℕ → ℤ
  forwards (pos f) m = pos (up_from f m)
  forwards (negsuc f) m = pos (up_from 0 m)

  -- the line at distance d before l; line -(r + 1) where r were still to be passed over
  abbrev pub line_of : ℕ → Seek → ℤ
  line_of l (at d) = pos (l - d)
  line_of l (left r) = negsuc r

  -- `nth_line_backwards` for n = m + 1: the marked lines from l, or from the last explicit one, back, then every line before the first
  abbrev pub backwards : ℤ → ℕ → ℤ
  backwards (pos s) m = line_of (min s explicit) (seek (λ d. p (min s explicit - d)) (suc (min s explicit)) 0 m)
  backwards (negsuc q) m = negsuc (q + m)

-- `find_named_line` and the two named spans of `resolve_line_names`: origin-zero lines, before they are held
module _ (explicit : ℕ) (names : Bytes → ℕ → Bool) where
  -- origin-zero line l has the name
  abbrev pub marks : Bytes → ℕ → Bool
  marks nm l = names nm (suc l)

  -- the area's edge where there is one, else as with index 1
  abbrev pub or_first : Bytes → Seek → ℤ
  or_first nm (at l) = pos l
  or_first nm (left r) = forwards explicit (marks nm) (pos 0) 0

  -- the line of a name with an index: 0 for the area's edge, positive from the first line, negative from the last explicit line back
  abbrev pub found : Bytes → Side → ℤ → ℤ
  found nm s (pos zero) = or_first nm (seek (marks (nm ++ suffix s)) top 0 0)
  found nm s (pos (suc i)) = forwards explicit (marks nm) (pos 0) i
  found nm s (negsuc i) = backwards explicit (marks nm) (pos explicit) i

  -- the line at this end of a named span beside line o: its start is counted back, its end on; a span of 0 counts as 1
  abbrev pub span_counted : Side → Bytes → ℕ → ℤ → ℤ
  span_counted start nm n o = backwards explicit (marks nm) (o -ℤ pos 1) (pred n)
  span_counted end nm n o = forwards explicit (marks nm) (o +ℤ pos 1) (pred n)

-- the grid line that an end has, 0 where it has none
abbrev pub line_at : Placement → ℤ
line_at auto = pos 0
line_at (line g) = g
line_at (named nm i) = pos 0
line_at (span n) = pos 0
line_at (nspan nm n) = pos 0

-- the same with any way to hold a line
module _ (hold : ℤ → ℤ) (explicit : ℕ) (names : Bytes → ℕ → Bool) where
  -- a named line becomes a line
  abbrev pub numbered_by : Side → Placement → Placement
  numbered_by s auto = auto
  numbered_by s (line g) = line g
  numbered_by s (named nm i) = line (to_grid_line explicit (hold (found explicit names nm s i)))
  numbered_by s (span n) = span n
  numbered_by s (nspan nm n) = nspan nm n

  -- a named span beside grid line g: span 1 where that is 0
  abbrev pub beside_by : ℤ → (ℤ → ℤ) → Resolved
  beside_by (pos zero) f = spanning 1
  beside_by (pos (suc g)) f = at_line (to_grid_line explicit (hold (f (hold (uncut explicit (pos (suc g)))))))
  beside_by (negsuc g) f = at_line (to_grid_line explicit (hold (f (hold (uncut explicit (negsuc g))))))

  -- one end, its name already a line, beside grid line g of the other
  abbrev pub resolved_by : Side → ℤ → Placement → Resolved
  resolved_by s g auto = free
  resolved_by s g (line h) = at_line h
  resolved_by s g (named nm i) = free
  resolved_by s g (span n) = spanning n
  resolved_by s g (nspan nm n) = beside_by g (span_counted explicit names s nm n)

  -- one end p beside the other
  abbrev pub end_by : Side → Placement → Placement → Resolved
  end_by s beside p = resolved_by s (line_at (numbered_by (other s) beside)) (numbered_by s p)

module _ (explicit : ℕ) (names : Bytes → ℕ → Bool) where
  -- held as document 01 has it
  abbrev pub numbered : Side → Placement → Placement
  numbered = numbered_by held explicit names

  abbrev pub beside : ℤ → (ℤ → ℤ) → Resolved
  beside = beside_by held explicit names

  abbrev pub resolved : Side → ℤ → Placement → Resolved
  resolved = resolved_by held explicit names

  -- `resolve_line_names`
  abbrev pub resolve : Placement → Placement → ResolvedEnds
  resolve p q =
      record {
        first = resolved start (line_at (numbered end q)) (numbered start p);
        last = resolved end (line_at (numbered start p)) (numbered end q);
      }

  -- one end p beside the other by a rule that never holds a line
  abbrev pub uncut_end : Side → Placement → Placement → Resolved
  uncut_end = end_by (λ z. z) explicit names

  -- document 02, Req 06: whether the line that an end is on was held, a written one as it is converted, a named one as it is found; line 0 never is
  abbrev pub line_held : Side → Placement → Bool
  line_held s auto = false
  line_held s (line g) = outside (uncut explicit g)
  line_held s (named nm i) = outside (found explicit names nm s i)
  line_held s (span n) = false
  line_held s (nspan nm n) = false

  -- a named span beside grid line g, which was held or not: "set if any step on the way to that end held it"; span 1 has no mark
  abbrev pub beside_held : ℤ → Bool → (ℤ → ℤ) → Bool
  beside_held (pos zero) h f = false
  beside_held (pos (suc g)) h f = h || outside (f (held (uncut explicit (pos (suc g)))))
  beside_held (negsuc g) h f = h || outside (f (held (uncut explicit (negsuc g))))

  -- the mark of an end beside grid line g of the other, which was held or not
  abbrev pub mark_of : Side → ℤ → Bool → Placement → Bool
  mark_of s g h auto = false
  mark_of s g h (line l) = line_held s (line l)
  mark_of s g h (named nm i) = line_held s (named nm i)
  mark_of s g h (span n) = false
  mark_of s g h (nspan nm n) = beside_held g h (span_counted explicit names s nm n)

  -- the mark of one end p beside the other, and the marks of both
  abbrev pub end_held : Side → Placement → Placement → Bool
  end_held s beside p = mark_of s (line_at (numbered (other s) beside)) (line_held (other s) beside) p

  abbrev pub held_ends : Placement → Placement → HeldEnds
  held_ends p q = record { first = end_held start q p; last = end_held end p q }
