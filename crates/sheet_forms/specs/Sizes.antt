-- Sizes as a sheet writes them: a kind and eight hexadecimal digits (document 01, panel sheet and panel ranges).
use Rattle.std.specs.Prelude.{ℕ, List, Bool, true, false, cond, eqb, ltb, Option, Some, None}
use Rattle.text.specs.Split.{index, same}
use Rattle.text.specs.Hexadecimal.{bits_of}
use Rattle.sizing.specs.Ranges.{minimum_kind, value_in_range, length_in_range}
use Rattle.sizing.specs.Words.{size_word_of}
use Rattle.sheet_forms.specs.Answers.{Field}
use Rattle.sheet_forms.specs.declared.Position.{Position}
use Rattle.sheet_forms.specs.declared.Position.TheVariants.{Minimum, Maximum, Gap}
use Rattle.sheet_forms.specs.Answers.{SizeField}
use Rattle.sheet_forms.specs.Answers.{InnerField}
use Rattle.sheet_forms.specs.Fields.{word_of}
use Rattle.sheet_forms.specs.Words.{dash, size_words}

abbrev pub faulty_size : ℕ → SizeField
faulty_size n = record { fault = n; word = 0 }

-- kinds are numbered in the order of their words
unfoldable pub kind_of : List ℕ → Field
kind_of f = word_of 8 (index f size_words)

-- a minimum is of no maximum-only kind, a gap is `len` or `pct`
abbrev pub allowed_at : Position → ℕ → Bool
allowed_at Minimum kind = minimum_kind kind
allowed_at Maximum kind = ltb kind 8
allowed_at Gap kind = ltb kind 2

-- a value outside the range of its kind is 3; a keyword has value zero
abbrev pub value_field : ℕ → ℕ → SizeField
value_field kind bits = cond (value_in_range kind bits) (record { fault = 0; word = size_word_of kind bits }) (faulty_size 3)

abbrev pub size_field : Position → Field → Option ℕ → SizeField
size_field position kind None = faulty_size 1
size_field position kind (Some bits) =
    cond (eqb kind.fault 0) (cond (allowed_at position kind.value) (value_field kind.value bits) (faulty_size 1)) (faulty_size 1)

unfoldable pub size_of : Position → List ℕ → List ℕ → SizeField
size_of position f g = size_field position (kind_of f) (bits_of g)

abbrev pub no_inner : ℕ → InnerField
no_inner n = record { fault = n; definite = false; bits = 0 }

abbrev pub some_inner : ℕ → InnerField
some_inner bits = record { fault = 0; definite = true; bits = bits }

abbrev pub inner_field : Option ℕ → InnerField
inner_field None = no_inner 1
inner_field (Some bits) = cond (length_in_range bits) (some_inner bits) (no_inner 3)

-- "inner size or `-`"
unfoldable pub inner_of : List ℕ → InnerField
inner_of f = cond (same f dash) (no_inner 0) (inner_field (bits_of f))
