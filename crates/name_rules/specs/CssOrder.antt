-- CSS Grid Level 2, 8.3.1, conflicts between the two ends of a placement: the lines between which an item lies, from the lines of its
-- start and its end. Nothing here says how a line is found (Css.antt), nor how the lines are numbered.
use Rattle.std.specs.Prelude.{◌≡◌, ℤ, pos, ◌+ℤ◌, ◌<ℤ◌}

-- 8.3.1: a start before its end stays; ends in the wrong order are swapped; of two equal ends the end is dropped, so the item spans one
-- track from its start. `OrderedLines s e lo hi`: start line s and end line e make the item lie from line lo to line hi
pub data OrderedLines (s e : ℤ) : ℤ → ℤ → Type 0 where
  in_order : s <ℤ e → OrderedLines s e s e
  swapped : e <ℤ s → OrderedLines s e e s
  one_track : s ≡ e → OrderedLines s e s (s +ℤ pos 1)
