-- The fields of a `place` line beside a placement by argument (SHEET.md, place): what they are refused by, and the ends that they write. A kind by
-- number is always a word, and a number is always spelt, so that a line's refusal 1 has no place here.
use Rattle.std.specs.Prelude.{ℕ, ◌≡◌, cond, List}
use Rattle.text.specs.Whole.{whole_of, whole}
use Rattle.sheet_forms.specs.Fields.{good}
use Rattle.sheet_forms.specs.Faults.{first_of}
use Rattle.sheet_forms.specs.Words.{dash, nought}
use Rattle.sheet_forms.specs.Ends.{end_kind, end_of}
use Rattle.panel_tables.specs.View.{End}
use Rattle.panel_tables.specs.Placements.{uses_name}
use Rattle.sheet_rules.specs.Lines.{placed_end}
use Rattle.given_placements.specs.Ends.{given_fault, used_end}

-- three fields say an end: the word of its kind, its name or `-`, its number or `0`
pub record SaysEnd (kind name number : List ℕ) (e : End) : Type 0 where
  pub kind_said : end_kind kind ≡ good e.end.kind
  pub name_said : name ≡ cond (uses_name e.end.kind) e.name dash
  pub none_said : e.end.kind ≡ 0 → number ≡ nought
  pub number_said : (e.end.kind ≡ 0 → ⊥) → whole_of number ≡ whole e.end.number

-- a placement whose ends six fields say is refused as these are, and an end that is not stands as they write it
pub record FieldsTheorem (axis : ℕ) (s e : End) (kind name number last_kind last_name last_number : List ℕ) : Type 0 where
  pub fault : given_fault axis s e ≡ first_of (end_of kind name number).fault (end_of last_kind last_name last_number).fault
  pub start : given_fault axis s e ≡ 0 → placed_end name (end_of kind name number).end ≡ used_end s
  pub end : given_fault axis s e ≡ 0 → placed_end last_name (end_of last_kind last_name last_number).end ≡ used_end e
