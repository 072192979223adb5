-- What a line is to a picture, as a number: 1 a row, 2 a line after which a row is late, 0 any other. It mirrors the code; proofs/Classes.antt joins the two.
use Rattle.std.specs.Prelude.{ℕ, List, Bool, cond, not, ◌&&◌, eqb, leb, Option, Some, None}
use Rattle.sheet_forms.specs.Forms.{row}
use Rattle.picture_end.specs.declared.class.LineClass.{LineClass}
use Rattle.picture_end.specs.declared.class.LineClass.TheVariants.{Between, Row, Later}
use Rattle.sheet_rules.specs.Kinds.{is_kind, is_one, later_kinds, row_follows}

-- the number of what a line is to a picture
abbrev pub class_number : LineClass → ℕ
class_number Between = 0
class_number Row = 1
class_number Later = 2

-- of a line as its fields
unfoldable pub class_of : List (List ℕ) → ℕ
class_of fs = cond (is_kind row fs) 1 (cond (is_one later_kinds fs) 2 0)

-- whether a line is the last row of a picture that is broken after it, where these lines follow
abbrev pub broken_row : Bool → List (List ℕ) → List (List (List ℕ)) → Bool
broken_row broken fs rest = is_kind row fs && (broken && not (row_follows rest))

-- ---- by the number of its first field's kind, and how many fields there are

-- the fields of a line of a kind after which a row is late, by the kind's number; 0 for any other kind
unfoldable pub later_fields : ℕ → ℕ
later_fields k =
    cond (eqb k 1) 6
    (cond (eqb k 2) 3
    (cond (eqb k 3) 6
    (cond (eqb k 4) 3
    (cond (eqb k 5) 2
    (cond (eqb k 6) 6
    (cond (eqb k 7) 4
    (cond (eqb k 8) 3
    (cond (eqb k 9) 8
    (cond (eqb k 11) 13 0)))))))))

-- of the fields that a line must have, if any: 0 for none
abbrev pub fields_or_none : Option ℕ → ℕ
fields_or_none None = 0
fields_or_none (Some n) = n

abbrev pub row_by : ℕ → ℕ
row_by n = cond (leb 2 n) 1 0

unfoldable pub class_by : ℕ → ℕ → ℕ
class_by k n = cond (eqb k 10) (row_by n) (cond (eqb n (later_fields k)) 2 0)
