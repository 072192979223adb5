-- An end of a placement, or of a cell: kind, name, number (document 01, panel sheet and panel ranges; document 02, request 10).
use Rattle.std.specs.Prelude.{ℕ, List, Bool, cond, ◌||◌, eqb, ℤ, pos, Result, Ok, Err}
use Rattle.text.specs.Split.{index, same}
use Rattle.text.specs.Whole.{whole_of, index_in}
use Rattle.text.specs.declared.NumberFault.{NumberFault}
use Rattle.text.specs.declared.NumberFault.TheVariants.{Unread, Outside}
use Rattle.sheet_forms.specs.Answers.{Field}
use Rattle.sheet_forms.specs.Answers.{NumberField}
use Rattle.sheet_forms.specs.Answers.{EndField}
use Rattle.sheet_forms.specs.Faults.{first_of}
use Rattle.sheet_forms.specs.Fields.{word_of, count_of, name_fault}
use Rattle.sheet_forms.specs.Words.{dash, nought, end_words}

-- kinds are numbered in the order of their words: `auto line named span nspan`
unfoldable pub end_kind : List ℕ → Field
end_kind f = word_of 5 (index f end_words)

-- "name `-` where unused", else unread
abbrev pub unused_name : List ℕ → ℕ
unused_name f = cond (same f dash) 0 1

-- `named` and `nspan` use their name
abbrev pub uses_name : ℕ → Bool
uses_name kind = eqb kind 2 || eqb kind 4

unfoldable pub end_name : ℕ → List ℕ → ℕ
end_name kind f = cond (uses_name kind) (name_fault f) (unused_name f)

abbrev pub faulty_number : ℕ → NumberField
faulty_number n = record { fault = n; value = pos 0 }

-- a line index, -32,768 to 32,767
abbrev pub index_field : Result ℤ NumberFault → NumberField
index_field (Err Unread) = faulty_number 1
index_field (Err Outside) = faulty_number 4
index_field (Ok v) = record { fault = 0; value = v }

-- a span
abbrev pub span_field : Field → NumberField
span_field c = record { fault = c.fault; value = pos c.value }

-- "number 0 where unused", else unread
abbrev pub unused_number : List ℕ → NumberField
unused_number f = cond (same f nought) (faulty_number 0) (faulty_number 1)

-- `auto` uses no number, `line` and `named` an index, `span` a plain span from least to most, `nspan` a span of 0 to 65,535
unfoldable pub end_number : ℕ → ℕ → ℕ → List ℕ → NumberField
end_number least most kind f =
    cond (eqb kind 0) (unused_number f)
    (cond (eqb kind 1) (index_field (index_in (whole_of f)))
    (cond (eqb kind 2) (index_field (index_in (whole_of f)))
    (cond (eqb kind 3) (span_field (count_of least most f)) (span_field (count_of 0 65535 f)))))

-- an end of a kind by its number alone
abbrev pub numbered_end : ℕ → ℕ → ℕ → List ℕ → EndField
numbered_end least most kind f =
    record { fault = (end_number least most kind f).fault; end = record { kind = kind; number = (end_number least most kind f).value } }

abbrev pub made_end : Field → ℕ → NumberField → EndField
made_end kind name number =
    record { fault = first_of kind.fault (first_of name number.fault); end = record { kind = kind.value; number = number.value } }

-- an end whose plain spans are from least to most
unfoldable pub end_within : ℕ → ℕ → List ℕ → List ℕ → List ℕ → EndField
end_within least most f name number = made_end (end_kind f) (end_name (end_kind f).value name) (end_number least most (end_kind f).value number)

-- "repeat counts and spans 0..65,535"
abbrev pub end_of : List ℕ → List ℕ → List ℕ → EndField
end_of f name number = end_within 0 65535 f name number

-- "their plain spans outside 1..32 are refused by 4"
abbrev pub cell_end_of : List ℕ → List ℕ → List ℕ → EndField
cell_end_of f name number = end_within 1 32 f name number
