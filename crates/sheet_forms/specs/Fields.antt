-- What one field of a line gives: a fault, 0 where there is none, and a value (document 01, panel sheet and panel ranges).
use Rattle.std.specs.Prelude.{ℕ, List, [], ◌∷◌, Bool, true, false, cond, eqb, ltb, leb, ◌&&◌, length, Result, Ok, Err}
use Rattle.coordinates.specs.declared.axis.Axis.TheVariants.{Column, Row}
use Rattle.text.specs.Split.{index}
use Rattle.text.specs.Whole.{whole_of, count_in}
use Rattle.text.specs.declared.NumberFault.{NumberFault}
use Rattle.text.specs.declared.NumberFault.TheVariants.{Unread, Outside}
use Rattle.sheet_forms.specs.Answers.{Field}
use Rattle.sheet_forms.specs.Answers.{AxisField}
use Rattle.sheet_forms.specs.Said.{RepeatRecord}
use Rattle.picture_rules.specs.Picture.{Word, is_dots}
use Rattle.sheet_forms.specs.Faults.{first_of}
use Rattle.sheet_forms.specs.Words.{axis_words, rule_words, repeat_words}

abbrev pub good : ℕ → Field
good v = record { fault = 0; value = v }

abbrev pub faulty : ℕ → Field
faulty n = record { fault = n; value = 0 }

-- one of the first n words, else unread
abbrev pub word_of : ℕ → ℕ → Field
word_of n i = cond (ltb i n) (good i) (faulty 1)

abbrev pub axis_at : ℕ → AxisField
axis_at i = cond (eqb i 0) (record { fault = 0; axis = Column }) (cond (eqb i 1) (record { fault = 0; axis = Row }) (record { fault = 1; axis = Column }))

-- "axis is `c` or `r`"
unfoldable pub axis_of : List ℕ → AxisField
axis_of f = axis_at (index f axis_words)

-- `max` or `min`
unfoldable pub rule_of : List ℕ → Field
rule_of f = word_of 2 (index f rule_words)

-- unread where the field is not spelt as a whole number, 4 where it is outside its range
abbrev pub count_field : Result ℕ NumberFault → Field
count_field (Err Unread) = faulty 1
count_field (Err Outside) = faulty 4
count_field (Ok v) = good v

unfoldable pub count_of : ℕ → ℕ → List ℕ → Field
count_of least most f = count_field (count_in least most (whole_of f))

abbrev pub repetition_field : Field → RepeatRecord
repetition_field c = record { fault = c.fault; kind = 0; number = c.value }

abbrev pub repetition_at : ℕ → Field → RepeatRecord
repetition_at i c =
    cond (eqb i 0) (record { fault = 0; kind = 1; number = 0 })
    (cond (eqb i 1) (record { fault = 0; kind = 2; number = 0 }) (repetition_field c))

-- "count or `fill` or `fit`"; repeat counts are 0 to 65,535
unfoldable pub repetition_of : List ℕ → RepeatRecord
repetition_of f = repetition_at (index f repeat_words) (count_of 0 65535 f)

-- a byte of the codes 33 to 126
abbrev pub in_code_range : ℕ → Bool
in_code_range b = leb 33 b && leb b 126

-- codes 33 to 126
unfoldable pub codes : List ℕ → Bool
codes [] = true
codes (b ∷ bs) = cond (ltb b 33) false (cond (ltb 126 b) false (codes bs))

-- a name is 1 to 32 bytes of these codes, else 2
unfoldable pub name_fault : List ℕ → ℕ
name_fault f = cond (eqb (length f) 0) 2 (cond (ltb 32 (length f)) 2 (cond (codes f) 0 2))

-- ---- the words of a row (document 02, request 07)

-- "every word is a name or dots", else 2
unfoldable pub word_fault : Word → ℕ
word_fault w = cond (is_dots w) 0 (name_fault w)

unfoldable pub words_fault : List Word → ℕ
words_fault [] = 0
words_fault (w ∷ ws) = cond (eqb (word_fault w) 0) (words_fault ws) (word_fault w)

-- "one past 10,000 words is refused by 4"
abbrev pub many_fault : ℕ → ℕ
many_fault words = cond (ltb 10000 words) 4 0

unfoldable pub row_fault : List Word → ℕ
row_fault ws = first_of (words_fault ws) (many_fault (length ws))
