-- What each condition of request 13 is needed for: the smallest axes on which a name moves further without it, as one list under one test.
use Rattle.std.specs.Prelude.{Bool, ◌&&◌, List, [], ◌∷◌, ℕ, ℤ, pos, negsuc}
use Rattle.name_rules.specs.Css.{Entry, AxisNames, Placement, auto, named, nspan, at_line}
use Rattle.name_rules.specs.Rule.{named?, resolve}
use Rattle.name_rules.specs.Cases.{entry, letter_x, same_resolved}

-- a placement's last end on an axis and on another, the lines that it comes to
pub record Moved : Type 0 where
  pub before : AxisNames
  pub after : AxisNames
  pub first : Placement
  pub last : Placement
  pub later : Placement
  pub was : ℤ
  pub is : ℤ

-- x on these lines, in an axis of so many explicit tracks
abbrev pub on_lines : ℕ → List Entry → AxisNames
on_lines n book = record { explicit = n; book = book; areas = [] }

-- x with an index, before and after
abbrev pub moved_index : AxisNames → AxisNames → ℤ → ℤ → ℤ → ℤ → Moved
moved_index x y i j was is = record { before = x; after = y; first = auto; last = named letter_x i; later = named letter_x j; was = was; is = is }

-- an old name past the explicit lines: x on 3, one more on 1: index 2 moves from line 2 to line 3, later;
-- x on 1 and 3, one more on 1: index 3 is line 2, earlier than index 2 was
abbrev pub old_name_past : List Moved
old_name_past =
    moved_index (on_lines 0 (entry 3 letter_x ∷ [])) (on_lines 0 (entry 3 letter_x ∷ entry 1 letter_x ∷ [])) (pos 2) (pos 2) (pos 2) (pos 3)
    ∷ moved_index (on_lines 0 (entry 1 letter_x ∷ entry 3 letter_x ∷ [])) (on_lines 0 (entry 1 letter_x ∷ entry 3 letter_x ∷ entry 1 letter_x ∷ [])) (pos 2) (pos 3) (pos 3) (pos 2)
    ∷ []

-- the new name past the explicit lines: index 1 moves from line 2 to line 3, later
abbrev pub new_name_past : List Moved
new_name_past = moved_index (on_lines 0 []) (on_lines 0 (entry 3 letter_x ∷ [])) (pos 1) (pos 1) (pos 2) (pos 3) ∷ []

-- the explicit count grown from 0 to 1: index 2 moves from line 2 to line 3, later
abbrev pub count_grown : List Moved
count_grown = moved_index (on_lines 0 (entry 1 letter_x ∷ [])) (on_lines 1 (entry 1 letter_x ∷ entry 1 letter_x ∷ [])) (pos 2) (pos 2) (pos 2) (pos 3) ∷ []

-- two entries at once: index 2 is line 2, earlier than index 1 was
abbrev pub two_entries : List Moved
two_entries = moved_index (on_lines 1 []) (on_lines 1 (entry 1 letter_x ∷ entry 2 letter_x ∷ [])) (pos 1) (pos 2) (pos 3) (pos 2) ∷ []

-- no limit is stated for spans: one that is counted from a line of the same name moves with it, here from line 1 to line 2, later
abbrev pub span_beside : List Moved
span_beside =
    record {
      before = on_lines 1 (entry 1 letter_x ∷ []);
      after = on_lines 1 (entry 1 letter_x ∷ entry 2 letter_x ∷ []);
      first = named letter_x (negsuc 1);
      last = nspan letter_x 1;
      later = nspan letter_x 1;
      was = pos 1;
      is = pos 2;
    } ∷ []

-- the rule answers so
unfoldable pub moves : Moved → Bool
unfolding named?
moves m =
    same_resolved (resolve m.before.explicit (named? m.before) m.first m.last).last (at_line m.was)
    && same_resolved (resolve m.after.explicit (named? m.after) m.first m.later).last (at_line m.is)
