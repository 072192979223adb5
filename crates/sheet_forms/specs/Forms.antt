-- The forms of the lines of a sheet, in the words of document 01's panel sheet. They don't name the reader.
use Rattle.std.specs.Prelude.{ℕ, suc, ◌≤◌, ◌<◌, ◌≡◌, List, [], ◌∷◌, false, ◌⊎◌, ℤ, pos, negsuc, length, get_or, ◌≤ℤ◌}
use Rattle.text.specs.Spelling.{Writes, WritesBits}
use Rattle.sizing.specs.Ranges.{maximum_only}
use Rattle.sheet_forms.specs.declared.Position.{Position}
use Rattle.sheet_forms.specs.declared.Position.TheVariants.{Minimum, Maximum, Gap}
use Rattle.sheet_forms.specs.Words.{at, dash, nought, axis_words, kind_words, size_words, rule_words, repeat_words, end_words}

-- ---- one field

abbrev pub OneOf : List (List ℕ) → List ℕ → Type 0
OneOf [] f = ⊥
OneOf (w ∷ ws) f = (f ≡ w) ⊎ OneOf ws f

abbrev pub Codes : List ℕ → Type 0
Codes [] = Unit {0}
Codes (b ∷ bs) = (33 ≤ b) × (b ≤ 126) × Codes bs

-- "name: 1 to 32 bytes of codes 33 to 126"
pub record InNameRange (f : List ℕ) : Type 0 where
  pub some : 1 ≤ length f
  pub few : length f ≤ 32
  pub coded : Codes f

abbrev pub Whole : List ℕ → Type 0
Whole f = (z : ℤ) × Writes f z

-- a whole number outside its range
abbrev pub OutsideRange : ℤ → ℤ → List ℕ → Type 0
OutsideRange least most f = (z : ℤ) × Writes f z × ((least ≤ℤ z) × (z ≤ℤ most) → ⊥)

-- "line indexes -32,768..32,767" (`negsuc 32767` is -32,768)
abbrev pub OutsideIndexes : List ℕ → Type 0
OutsideIndexes f = OutsideRange (negsuc 32767) (pos 32767) f

-- "repeat counts and spans 0..65,535"
abbrev pub OutsideCounts : List ℕ → Type 0
OutsideCounts f = OutsideRange (pos 0) (pos 65535) f

abbrev pub Size : List ℕ → Type 0
Size f = (bits : ℕ) × WritesBits f bits

-- kind j of `len pct fr auto min max fitl fitp`
abbrev pub SizeKind : ℕ → List ℕ → Type 0
SizeKind j f = (j < 8) × (f ≡ get_or size_words j [])

-- no maximum-only kind as minimum; "gap kind `len` or `pct`"
abbrev pub Allowed : Position → ℕ → Type 0
Allowed Minimum j = maximum_only j ≡ false
Allowed Maximum j = Unit {0}
Allowed Gap j = j < 2

-- ---- an end of a placement, or of a cell

abbrev pub is_auto : List ℕ → Type 0
is_auto f = f ≡ get_or end_words 0 []

abbrev pub is_line : List ℕ → Type 0
is_line f = f ≡ get_or end_words 1 []

abbrev pub is_named : List ℕ → Type 0
is_named f = f ≡ get_or end_words 2 []

abbrev pub is_span : List ℕ → Type 0
is_span f = f ≡ get_or end_words 3 []

abbrev pub is_nspan : List ℕ → Type 0
is_nspan f = f ≡ get_or end_words 4 []

-- "name `-` and number 0 where unused"
pub data EndForm (f name number : List ℕ) : Type 0 where
  auto : is_auto f → name ≡ dash → number ≡ nought → EndForm f name number
  line : is_line f → name ≡ dash → Whole number → EndForm f name number
  named : is_named f → Whole number → EndForm f name number
  span : is_span f → name ≡ dash → Whole number → EndForm f name number
  nspan : is_nspan f → Whole number → EndForm f name number

-- ---- the parts of a line, each with the number of its first field, a count and an end with the least and the most that the count, or a plain
-- span of the end, may be before it; the words of a row go to the end of the line

pub data Part : Type 0 where
  an_axis : ℕ → Part
  a_name : ℕ → Part
  a_count : ℕ → ℕ → ℕ → Part
  an_inner : ℕ → Part
  a_rule : ℕ → Part
  a_size : Position → ℕ → Part
  a_repetition : ℕ → Part
  an_end : ℕ → ℕ → ℕ → Part
  the_words : ℕ → Part

-- a part of the form that the sheet's rules give it; what a used name holds is row 2's
abbrev pub Formed : List (List ℕ) → Part → Type 0
Formed fs (an_axis k) = OneOf axis_words (at fs k)
Formed fs (a_name k) = Unit {0}
Formed fs (a_count least most k) = Whole (at fs k)
Formed fs (an_inner k) = (at fs k ≡ dash) ⊎ Size (at fs k)
Formed fs (a_rule k) = OneOf rule_words (at fs k)
Formed fs (a_size p k) = ((j : ℕ) × SizeKind j (at fs k) × Allowed p j) × Size (at fs (suc k))
Formed fs (a_repetition k) = OneOf repeat_words (at fs k) ⊎ Whole (at fs k)
Formed fs (an_end least most k) = EndForm (at fs k) (at fs (suc k)) (at fs (suc (suc k)))
Formed fs (the_words k) = Unit {0}

-- ---- a line

pub data Kind : Type 0 where
  axis area name track repeat end spare extra item place row cell : Kind

-- its number in the order of `kind_words`
abbrev pub kind_number : Kind → ℕ
kind_number axis = 0
kind_number area = 1
kind_number name = 2
kind_number track = 3
kind_number repeat = 4
kind_number end = 5
kind_number spare = 6
kind_number extra = 7
kind_number item = 8
kind_number place = 9
kind_number row = 10
kind_number cell = 11

-- that a line of a kind may have n fields, its word the first
abbrev pub Fields : Kind → ℕ → Type 0
Fields axis n = n ≡ 6
Fields area n = n ≡ 6
Fields name n = n ≡ 3
Fields track n = n ≡ 6
Fields repeat n = n ≡ 3
Fields end n = n ≡ 2
Fields spare n = n ≡ 6
Fields extra n = n ≡ 4
Fields item n = n ≡ 3
Fields place n = n ≡ 8
Fields row n = 2 ≤ n
Fields cell n = n ≡ 13

-- what stands in them; a plain span of a cell is 1 to 32 (document 02, request 10)
abbrev pub parts_of : Kind → List Part
parts_of axis = an_axis 1 ∷ an_inner 2 ∷ a_rule 3 ∷ a_size Gap 4 ∷ []
parts_of area = a_name 1 ∷ a_count 1 10001 2 ∷ a_count 1 10001 3 ∷ a_count 1 10001 4 ∷ a_count 1 10001 5 ∷ []
parts_of name = an_axis 1 ∷ a_name 2 ∷ []
parts_of track = an_axis 1 ∷ a_size Minimum 2 ∷ a_size Maximum 4 ∷ []
parts_of repeat = an_axis 1 ∷ a_repetition 2 ∷ []
parts_of end = an_axis 1 ∷ []
parts_of spare = an_axis 1 ∷ a_size Minimum 2 ∷ a_size Maximum 4 ∷ []
parts_of extra = an_axis 1 ∷ a_count 0 10000 2 ∷ a_count 0 10000 3 ∷ []
parts_of item = an_axis 1 ∷ a_count 0 29999 2 ∷ []
parts_of place = an_axis 1 ∷ an_end 0 65535 2 ∷ an_end 0 65535 5 ∷ []
parts_of row = the_words 1 ∷ []
parts_of cell = an_end 1 32 1 ∷ an_end 1 32 4 ∷ an_end 1 32 7 ∷ an_end 1 32 10 ∷ []

-- a line of a kind, by its first field and how many fields there are
pub record Of (fs : List (List ℕ)) (k : Kind) : Type 0 where
  pub word : at fs 0 ≡ get_or kind_words (kind_number k) []
  pub fields : Fields k (length fs)

abbrev pub Every : (Part → Type 0) → List Part → Type 0
Every P [] = Unit {0}
Every P (p ∷ ps) = P p × Every P ps
