-- Rows 1 to 5 of document 01's table over the fields of one line, in the words of its panel sheet and panel ranges.
-- They don't name the reader; proofs/Theorem.antt shows that it follows them.
use Rattle.std.specs.Prelude.{ℕ, suc, ◌<◌, ◌≡◌, List, [], ◌∷◌, false, ◌⊎◌, ℤ, pos, length, get_or, drop, ◌<ℤ◌}
use Rattle.picture_rules.specs.Picture.{Word, Dots}
use Rattle.text.specs.Spelling.{Writes, WritesBits}
use Rattle.sizing.specs.Ranges.{value_in_range, length_in_range}
use Rattle.sheet_forms.specs.Faults.{FirstBy}
use Rattle.sheet_forms.specs.Words.{at}
use Rattle.sheet_forms.specs.Forms.{Every, Formed, InNameRange, Kind, Of, OutsideCounts, OutsideIndexes, OutsideRange, Part, SizeKind, a_count, a_name, a_repetition, a_rule, a_size, an_axis, an_end, an_inner, area, is_line, is_named, is_nspan, is_span, parts_of, the_words}

-- a word that is neither dots nor in the name range
pub record BadWord (w : Word) : Type 0 where
  pub dots : Dots w → ⊥
  pub name : InNameRange w → ⊥

-- some word is
abbrev pub BadWords : List Word → Type 0
BadWords ws = (i : ℕ) × (i < length ws) × BadWord (get_or ws i [])

-- a used name outside the name range
abbrev pub NameOutside : List (List ℕ) → Part → Type 0
NameOutside fs (an_axis k) = ⊥
NameOutside fs (a_name k) = InNameRange (at fs k) → ⊥
NameOutside fs (a_count least most k) = ⊥
NameOutside fs (an_inner k) = ⊥
NameOutside fs (a_rule k) = ⊥
NameOutside fs (a_size p k) = ⊥
NameOutside fs (a_repetition k) = ⊥
NameOutside fs (an_end least most k) = (is_named (at fs k) ⊎ is_nspan (at fs k)) × (InNameRange (at fs (suc k)) → ⊥)
NameOutside fs (the_words k) = BadWords (drop k fs)

-- a size outside its range; "a keyword has value zero, else 3"
abbrev pub ValueOutside : List (List ℕ) → Part → Type 0
ValueOutside fs (an_axis k) = ⊥
ValueOutside fs (a_name k) = ⊥
ValueOutside fs (a_count least most k) = ⊥
ValueOutside fs (an_inner k) = (bits : ℕ) × WritesBits (at fs k) bits × (length_in_range bits ≡ false)
ValueOutside fs (a_rule k) = ⊥
ValueOutside fs (a_size p k) = (j : ℕ) × (bits : ℕ) × SizeKind j (at fs k) × WritesBits (at fs (suc k)) bits × (value_in_range j bits ≡ false)
ValueOutside fs (a_repetition k) = ⊥
ValueOutside fs (an_end least most k) = ⊥
ValueOutside fs (the_words k) = ⊥

-- a whole number outside its range; more words than a row may have
abbrev pub CountOutside : List (List ℕ) → Part → Type 0
CountOutside fs (an_axis k) = ⊥
CountOutside fs (a_name k) = ⊥
CountOutside fs (a_count least most k) = OutsideRange (pos least) (pos most) (at fs k)
CountOutside fs (an_inner k) = ⊥
CountOutside fs (a_rule k) = ⊥
CountOutside fs (a_size p k) = ⊥
CountOutside fs (a_repetition k) = OutsideCounts (at fs k)
CountOutside fs (an_end least most k) =
    ((is_line (at fs k) ⊎ is_named (at fs k)) × OutsideIndexes (at fs (suc (suc k))))
    ⊎ ((is_span (at fs k) × OutsideRange (pos least) (pos most) (at fs (suc (suc k)))) ⊎ (is_nspan (at fs k) × OutsideCounts (at fs (suc (suc k)))))
CountOutside fs (the_words k) = 10000 < length (drop k fs)

abbrev pub Some : (Part → Type 0) → List Part → Type 0
Some P [] = ⊥
Some P (p ∷ ps) = P p ⊎ Some P ps

-- a start not below its end
abbrev pub NotBelow : List ℕ → List ℕ → Type 0
NotBelow f g = (s : ℤ) × (e : ℤ) × Writes f s × Writes g e × (s <ℤ e → ⊥)

-- row 1: a line of no form
abbrev pub UnreadLine : List (List ℕ) → Type 0
UnreadLine fs = (k : Kind) → Of fs k → Every (Formed fs) (parts_of k) → ⊥

-- row 2: a name outside the name range
abbrev pub BadName : List (List ℕ) → Type 0
BadName fs = (k : Kind) × Of fs k × Some (NameOutside fs) (parts_of k)

-- row 3: a size outside its range
abbrev pub BadValue : List (List ℕ) → Type 0
BadValue fs = (k : Kind) × Of fs k × Some (ValueOutside fs) (parts_of k)

-- row 4: a whole number outside its range
abbrev pub BadCount : List (List ℕ) → Type 0
BadCount fs = (k : Kind) × Of fs k × Some (CountOutside fs) (parts_of k)

-- row 5: an area start not below its end
abbrev pub BadArea : List (List ℕ) → Type 0
BadArea fs = Of fs area × (NotBelow (at fs 2) (at fs 3) ⊎ NotBelow (at fs 4) (at fs 5))

-- ---- the rows by their numbers

pub data Row : Type 0 where
  unread bad_name bad_value bad_count bad_area : Row

abbrev pub number_of : Row → ℕ
number_of unread = 1
number_of bad_name = 2
number_of bad_value = 3
number_of bad_count = 4
number_of bad_area = 5

abbrev pub Holds : List (List ℕ) → Row → Type 0
Holds fs unread = UnreadLine fs
Holds fs bad_name = BadName fs
Holds fs bad_value = BadValue fs
Holds fs bad_count = BadCount fs
Holds fs bad_area = BadArea fs

-- n is the number of the row that holds and comes first, 0 where no row holds
abbrev pub First : (Row → Type 0) → ℕ → Type 0
First holds n = FirstBy number_of holds n
