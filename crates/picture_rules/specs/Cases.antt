-- Worked pictures, one list under one test.
use Rattle.std.specs.Prelude.{ℕ, List, [], ◌∷◌, Bool, true, false, not, ◌&&◌, eqb}
use Rattle.text.specs.Split.{same}
use Rattle.picture_rules.specs.Picture.{Word, Picture, Box, PictureArea}
use Rattle.picture_rules.specs.Steps.{PictureState, taken_of}

-- what a picture gives: areas, rows and width, or nothing where it is broken
pub data Answer : Type 0 where
  areas : List PictureArea → ℕ → ℕ → Answer
  broken : Answer

pub record Case : Type 0 where
  pub picture : Picture
  pub answer : Answer

abbrev pub every : {A : Type 0} → (A → Bool) → List A → Bool
every p [] = true
every p (a ∷ l) = p a && every p l

abbrev pub same_box : Box → Box → Bool
same_box b e = eqb b.rowstart e.rowstart && eqb b.rowend e.rowend && eqb b.columnstart e.columnstart && eqb b.columnend e.columnend

abbrev pub same_areas : List PictureArea → List PictureArea → Bool
same_areas [] [] = true
same_areas [] (b ∷ k) = false
same_areas (a ∷ l) [] = false
same_areas (a ∷ l) (b ∷ k) = same a.name b.name && same_box a.box b.box && same_areas l k

abbrev pub gives : PictureState → Answer → Bool
gives s (areas l rows width) = not s.broken && same_areas s.areas l && eqb s.rows rows && eqb s.width width
gives s broken = s.broken

unfoldable pub holds : Case → Bool
holds c = gives (taken_of c.picture) c.answer

-- ---- words and areas

abbrev pub a : Word
a = 97 ∷ []

abbrev pub b : Word
b = 98 ∷ []

abbrev pub c : Word
c = 99 ∷ []

abbrev pub d : Word
d = 100 ∷ []

abbrev pub dot : Word
dot = 46 ∷ []

abbrev pub dots : Word
dots = 46 ∷ 46 ∷ 46 ∷ []

abbrev pub area : Word → ℕ → ℕ → ℕ → ℕ → PictureArea
area n rowstart rowend columnstart columnend = record { name = n; box = record { rowstart = rowstart; rowend = rowend; columnstart = columnstart; columnend = columnend } }

-- ---- the cases

abbrev pub cases : List Case
cases =
    -- an L shape, either way
    record { picture = (a ∷ a ∷ []) ∷ (a ∷ b ∷ []) ∷ []; answer = broken }
    ∷ record { picture = (a ∷ b ∷ []) ∷ (a ∷ a ∷ []) ∷ []; answer = broken }
    -- a name again after a gap of rows
    ∷ record { picture = (a ∷ []) ∷ (b ∷ []) ∷ (a ∷ []) ∷ []; answer = broken }
    ∷ record { picture = (a ∷ []) ∷ (dot ∷ []) ∷ (a ∷ []) ∷ []; answer = broken }
    -- two runs of a name in one row, also where the next row fills the box around them
    ∷ record { picture = (a ∷ b ∷ a ∷ []) ∷ []; answer = broken }
    ∷ record { picture = (a ∷ dot ∷ a ∷ []) ∷ (a ∷ a ∷ a ∷ []) ∷ []; answer = broken }
    -- the same columns moved by one
    ∷ record { picture = (a ∷ a ∷ b ∷ []) ∷ (b ∷ a ∷ a ∷ []) ∷ []; answer = broken }
    -- dots of several lengths; `a.` is a name
    ∷ record {
      picture = (dot ∷ dots ∷ []) ∷ (dots ∷ (97 ∷ 46 ∷ []) ∷ []) ∷ [];
      answer = areas (area (97 ∷ 46 ∷ []) 2 3 2 3 ∷ []) 2 2;
    }
    -- one name that fills all
    ∷ record { picture = (a ∷ a ∷ []) ∷ (a ∷ a ∷ []) ∷ (a ∷ a ∷ []) ∷ []; answer = areas (area a 1 4 1 3 ∷ []) 3 2 }
    -- four areas round an empty cell, in order of first cell
    ∷ record {
      picture = (b ∷ b ∷ a ∷ []) ∷ (d ∷ dot ∷ a ∷ []) ∷ (d ∷ c ∷ c ∷ []) ∷ [];
      answer = areas (area b 1 2 1 3 ∷ area a 1 3 3 4 ∷ area d 2 4 1 2 ∷ area c 3 4 2 4 ∷ []) 3 3;
    }
    -- a row of dots alone
    ∷ record { picture = (dots ∷ dot ∷ []) ∷ []; answer = areas [] 1 2 }
    ∷ []
