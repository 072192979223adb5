-- The names of a record, which stay in its line: field 1 of an `area`, field 2 of a `name`, fields 3 and 6 of a `place` (document 01, panel sheet),
-- fields 2, 5, 8 and 11 of a `cell` (document 02, request 10).
use Rattle.std.specs.Prelude.{ℕ, List, []}
use Rattle.sheet_forms.specs.Said.{Record}
use Rattle.sheet_forms.specs.Said.{Fault, Axis, Area, Name, Track, Repeat, End, Spare, Extra, Item, Place, PictureRow, Cell}
use Rattle.sheet_forms.specs.Words.{at}

-- what is there of a field by its number, for the field of the first name
abbrev pub of_first : {A : Type 0} → A → (ℕ → A) → Record → A
of_first none field (Fault n) = none
of_first none field (Axis a) = none
of_first none field (Area a) = field 1
of_first none field (Name a) = field 2
of_first none field (Track a min max) = none
of_first none field (Repeat a n) = none
of_first none field (End a) = none
of_first none field (Spare a min max) = none
of_first none field (Extra a n p) = none
of_first none field (Item a i) = none
of_first none field (Place a s e) = field 3
of_first none field (PictureRow n) = none
of_first none field (Cell cs ce rs re) = field 2

-- and for that of the second
abbrev pub of_second : {A : Type 0} → A → (ℕ → A) → Record → A
of_second none field (Fault n) = none
of_second none field (Axis a) = none
of_second none field (Area a) = none
of_second none field (Name a) = none
of_second none field (Track a min max) = none
of_second none field (Repeat a n) = none
of_second none field (End a) = none
of_second none field (Spare a min max) = none
of_second none field (Extra a n p) = none
of_second none field (Item a i) = none
of_second none field (Place a s e) = field 6
of_second none field (PictureRow n) = none
of_second none field (Cell cs ce rs re) = field 5

-- for that of the third, which a `cell` alone has
abbrev pub of_third : {A : Type 0} → A → (ℕ → A) → Record → A
of_third none field (Fault n) = none
of_third none field (Axis a) = none
of_third none field (Area a) = none
of_third none field (Name a) = none
of_third none field (Track a min max) = none
of_third none field (Repeat a n) = none
of_third none field (End a) = none
of_third none field (Spare a min max) = none
of_third none field (Extra a n p) = none
of_third none field (Item a i) = none
of_third none field (Place a s e) = none
of_third none field (PictureRow n) = none
of_third none field (Cell cs ce rs re) = field 8

-- for that of the fourth, likewise
abbrev pub of_fourth : {A : Type 0} → A → (ℕ → A) → Record → A
of_fourth none field (Fault n) = none
of_fourth none field (Axis a) = none
of_fourth none field (Area a) = none
of_fourth none field (Name a) = none
of_fourth none field (Track a min max) = none
of_fourth none field (Repeat a n) = none
of_fourth none field (End a) = none
of_fourth none field (Spare a min max) = none
of_fourth none field (Extra a n p) = none
of_fourth none field (Item a i) = none
of_fourth none field (Place a s e) = none
of_fourth none field (PictureRow n) = none
of_fourth none field (Cell cs ce rs re) = field 11

-- the names themselves, empty where there is none
abbrev pub first_name : Record → List (List ℕ) → List ℕ
first_name r fs = of_first [] (at fs) r

abbrev pub second_name : Record → List (List ℕ) → List ℕ
second_name r fs = of_second [] (at fs) r

abbrev pub third_name : Record → List (List ℕ) → List ℕ
third_name r fs = of_third [] (at fs) r

abbrev pub fourth_name : Record → List (List ℕ) → List ℕ
fourth_name r fs = of_fourth [] (at fs) r
