-- Document 01's M8 to M11, cases of document 02's marks, and of the names that a template gives, each a list under one test.
use Rattle.std.specs.Prelude.{Bool, true, false, ◌&&◌, List, [], ◌∷◌, ◌++◌, ℕ, eqb, ℤ, pos, negsuc}
use Rattle.name_rules.specs.Css.{Bytes, Entry, AxisNames, start, suffix, Placement, auto, line, named, span, nspan, Resolved}
use Rattle.name_rules.specs.Css.{free, at_line, spanning, ResolvedEnds}
use Rattle.name_rules.specs.CssMarks.{HeldEnds}
use Rattle.name_rules.specs.Rule.{eq_bytes, named?, resolve, held_ends}
use Rattle.name_rules.specs.Template.{label, track, Item, single, repeat, rule_from}

-- each element passes the test
abbrev pub every : {A : Type 0} → (A → Bool) → List A → Bool
every p [] = true
every p (a ∷ l) = p a && every p l

-- two integers, and two answers, are the same
abbrev pub same_integer : ℤ → ℤ → Bool
same_integer (pos a) (pos b) = eqb a b
same_integer (pos a) (negsuc b) = false
same_integer (negsuc a) (pos b) = false
same_integer (negsuc a) (negsuc b) = eqb a b

abbrev pub same_resolved : Resolved → Resolved → Bool
same_resolved free free = true
same_resolved free (at_line h) = false
same_resolved free (spanning m) = false
same_resolved (at_line g) free = false
same_resolved (at_line g) (at_line h) = same_integer g h
same_resolved (at_line g) (spanning m) = false
same_resolved (spanning n) free = false
same_resolved (spanning n) (at_line h) = false
same_resolved (spanning n) (spanning m) = eqb n m

-- a placement of two ends in an axis, and the grid lines and spans that it is resolved to
pub record Case : Type 0 where
  pub names : AxisNames
  pub first : Placement
  pub last : Placement
  pub answer : ResolvedEnds

abbrev pub case : AxisNames → Placement → Placement → Resolved → Resolved → Case
case x p q r t = record { names = x; first = p; last = q; answer = record { first = r; last = t } }

-- a name on a line
abbrev pub entry : ℕ → Bytes → Entry
entry l n = record { line = l; name = n }

abbrev pub letter_a : Bytes
letter_a = 97 ∷ []

abbrev pub letter_x : Bytes
letter_x = 120 ∷ []

-- explicit 3, x on lines 1 and 3
abbrev pub two_lines : AxisNames
two_lines = record { explicit = 3; book = entry 1 letter_x ∷ entry 3 letter_x ∷ []; areas = [] }

-- explicit 3, area a from line 2, `a-start` also on line 1
abbrev pub drawn_area : AxisNames
drawn_area = record { explicit = 3; book = entry 1 (letter_a ++ suffix start) ∷ []; areas = record { name = letter_a; from = 2; to = 4 } ∷ [] }

-- M8: index 2 is 3, index 3 is 5, index -3 is -5. M9: start line 1, span x 1: end 3. M10: start line 0 beside it: line 0, span 1.
-- M11: a is 1, `a-start` 2 is 2
abbrev pub cases : List Case
cases =
    case two_lines (named letter_x (pos 2)) auto (at_line (pos 3)) free
    ∷ case two_lines (named letter_x (pos 3)) auto (at_line (pos 5)) free
    ∷ case two_lines (named letter_x (negsuc 2)) auto (at_line (negsuc 4)) free
    ∷ case two_lines (line (pos 1)) (nspan letter_x 1) (at_line (pos 1)) (at_line (pos 3))
    ∷ case two_lines (line (pos 0)) (nspan letter_x 1) (at_line (pos 0)) (spanning 1)
    ∷ case drawn_area (named letter_a (pos 0)) auto (at_line (pos 1)) free
    ∷ case drawn_area (named (letter_a ++ suffix start) (pos 2)) auto (at_line (pos 2)) free
    ∷ []

-- the rule answers so
unfoldable pub holds : Case → Bool
unfolding named?
holds c =
    let r = resolve c.names.explicit (named? c.names) c.first c.last in
    same_resolved r.first c.answer.first && same_resolved r.last c.answer.last

-- a placement, what it is resolved to, and the marks of its ends
pub record Marked : Type 0 where
  pub placed : Case
  pub marks : HeldEnds

abbrev pub marked : Case → Bool → Bool → Marked
marked c f l = record { placed = c; marks = record { first = f; last = l } }

-- explicit 3, x on line 2; and x on line 15,001
abbrev pub one_line : AxisNames
one_line = record { explicit = 3; book = entry 2 letter_x ∷ []; areas = [] }

abbrev pub far_line : AxisNames
far_line = record { explicit = 3; book = entry 15001 letter_x ∷ []; areas = [] }

-- document 02, Req 06. A written line at each limit and one past it; a span that takes over the mark of the line beside it; a line past the limit
-- that is counted to, and one that is only counted past; a count to the limit and past it; a span whose two steps are held; no mark where there is no line
abbrev pub marked_cases : List Marked
marked_cases =
    marked (case one_line (line (pos 10001)) (line (pos 10002)) (at_line (pos 10001)) (at_line (pos 10002))) false true
    ∷ marked (case one_line (line (negsuc 10004)) (line (negsuc 10003)) (at_line (negsuc 10004)) (at_line (negsuc 10003))) true false
    ∷ marked (case one_line (nspan letter_x 1) (line (pos 10002)) (at_line (pos 2)) (at_line (pos 10002))) true true
    ∷ marked (case one_line (nspan letter_x 1) (line (pos 10001)) (at_line (pos 2)) (at_line (pos 10001))) false false
    ∷ marked (case far_line (named letter_x (pos 1)) (named letter_x (pos 2)) (at_line (pos 10001)) (at_line (pos 5))) true false
    ∷ marked (case far_line (line (pos 1)) (nspan letter_x 2) (at_line (pos 1)) (at_line (pos 5))) false false
    ∷ marked (case one_line (named letter_a (pos 9997)) (named letter_a (pos 9998)) (at_line (pos 10001)) (at_line (pos 10001))) false true
    ∷ marked (case one_line (nspan letter_x 1) (named letter_a (pos 9998)) (at_line (pos 2)) (at_line (pos 10001))) true true
    ∷ marked (case one_line (nspan letter_a 10000) (line (pos 2)) (at_line (negsuc 10003)) (at_line (pos 2))) false false
    ∷ marked (case one_line (nspan letter_a 10001) (line (pos 2)) (at_line (negsuc 10003)) (at_line (pos 2))) true false
    ∷ marked (case one_line (nspan letter_x 1) (line (pos 0)) (spanning 1) (at_line (pos 0))) false false
    ∷ marked (case one_line auto (span 65535) free (spanning 65535)) false false
    ∷ []

-- two marks are the same
abbrev pub same_mark : Bool → Bool → Bool
same_mark true b = b
same_mark false true = false
same_mark false false = true

-- the rule answers and marks so
unfoldable pub marks_hold : Marked → Bool
unfolding holds named?
marks_hold m =
    let c = m.placed in
    let h = held_ends c.names.explicit (named? c.names) c.first c.last in
    holds c && (same_mark h.first m.marks.first && same_mark h.last m.marks.last)

-- a template from a line on, and the entries that it gives
pub record Written : Type 0 where
  pub from : ℕ
  pub items : List Item
  pub entries : List Entry

-- the same entries in the same order
abbrev pub same_entries : List Entry → List Entry → Bool
same_entries [] [] = true
same_entries [] (e ∷ l) = false
same_entries (e ∷ l) [] = false
same_entries (e ∷ l) (f ∷ m) = (eqb e.line f.line && eq_bytes e.name f.name) && same_entries l m

-- written out: the set that ends a repetition joins the next, and the sets at its edges join their neighbours
abbrev pub joined : Written
joined =
    record {
      from = 1;
      items = single track ∷ single (label letter_a) ∷ repeat 2 (label letter_x ∷ track ∷ label letter_a ∷ []) ∷ single (label letter_x) ∷ [];
      entries = entry 2 letter_a ∷ entry 2 letter_x ∷ entry 3 letter_a ∷ entry 3 letter_x ∷ entry 4 letter_a ∷ entry 4 letter_x ∷ [];
    }

-- written no times: later names sit one line further on, once for each such repeat
abbrev pub no_times : Written
no_times =
    record {
      from = 1;
      items = repeat 0 (label letter_a ∷ track ∷ []) ∷ single (label letter_x) ∷ repeat 0 (track ∷ track ∷ []) ∷ single (label letter_x) ∷ [];
      entries = entry 2 letter_x ∷ entry 3 letter_x ∷ [];
    }

-- no tracks: all names on one line
abbrev pub no_tracks : Written
no_tracks =
    record {
      from = 1;
      items = single track ∷ repeat 3 (label letter_a ∷ []) ∷ single (label letter_x) ∷ [];
      entries = entry 2 letter_a ∷ entry 2 letter_a ∷ entry 2 letter_a ∷ entry 2 letter_x ∷ [];
    }

-- past line 10,000 writing out stops after one repetition, and so in each later repeat, one of no tracks too
abbrev pub past_limit : Written
past_limit =
    record {
      from = 9999;
      items = repeat 5 (label letter_a ∷ track ∷ []) ∷ single (label letter_x)
          ∷ repeat 5 (label letter_a ∷ []) ∷ repeat 5 (track ∷ label letter_x ∷ []) ∷ [];
      entries = entry 9999 letter_a ∷ entry 10000 letter_a ∷ entry 10001 letter_x ∷ entry 10001 letter_a ∷ entry 10002 letter_x ∷ [];
    }

abbrev pub templates : List Written
templates = joined ∷ no_times ∷ no_tracks ∷ past_limit ∷ []

-- the rule writes these entries
unfoldable pub gives : Written → Bool
unfolding rule_from
gives w = same_entries (rule_from w.from w.items) w.entries
