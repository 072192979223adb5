-- Which kind a line is of, as a test: by its first field and how many fields there are. proofs/KindTest.antt joins it to Forms.antt.
use Rattle.std.specs.Prelude.{ℕ, List, [], ◌∷◌, Bool, true, false, cond, ◌&&◌, ◌||◌, eqb, leb, length, get_or}
use Rattle.text.specs.Split.{same}
use Rattle.sheet_forms.specs.Words.{at, kind_words}
use Rattle.sheet_forms.specs.Forms.{Kind, axis, area, name, track, repeat, end, spare, extra, item, place, row, cell, kind_number}

-- whether a line of a kind may have n fields
abbrev pub has_fields : Kind → ℕ → Bool
has_fields axis n = eqb n 6
has_fields area n = eqb n 6
has_fields name n = eqb n 3
has_fields track n = eqb n 6
has_fields repeat n = eqb n 3
has_fields end n = eqb n 2
has_fields spare n = eqb n 6
has_fields extra n = eqb n 4
has_fields item n = eqb n 3
has_fields place n = eqb n 8
has_fields row n = leb 2 n
has_fields cell n = eqb n 13

unfoldable pub is_kind : Kind → List (List ℕ) → Bool
is_kind k fs = same (at fs 0) (get_or kind_words (kind_number k) []) && has_fields k (length fs)

-- ---- the rows of a picture (document 02, request 07)

abbrev pub is_one : List Kind → List (List ℕ) → Bool
is_one [] fs = false
is_one (k ∷ ks) fs = is_kind k fs || is_one ks fs

-- the kinds after which a row is late; `axis` lines and lines of no form don't end a picture
abbrev pub later_kinds : List Kind
later_kinds = area ∷ name ∷ track ∷ repeat ∷ end ∷ spare ∷ extra ∷ item ∷ place ∷ cell ∷ []

-- whether one of these lines is a row that is not late by a line among them
unfoldable pub row_follows : List (List (List ℕ)) → Bool
row_follows [] = false
row_follows (fs ∷ rest) = cond (is_kind row fs) true (cond (is_one later_kinds fs) false (row_follows rest))
