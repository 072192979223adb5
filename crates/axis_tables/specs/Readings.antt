-- What reading needs of an axis, in document 01's numbers, and the numbers of the types that hold it.
use Rattle.std.specs.Prelude.{ℕ, Bool, Option, Some, None}
use Rattle.template_rules.specs.declared.GridTemplateComponent.{GridTemplateComponent}
use Rattle.template_rules.specs.Template.{count_kind, count_number}
use Rattle.axis_tables.specs.declared.AxisReading.{AxisReading as HeldReading}

-- a repeat that has no `end` yet: its kind and number as in the word of its component, the place of its first track and its tracks so far
pub record OpenRepeat : Type 0 where
  pub kind : ℕ
  pub number : ℕ
  pub first : ℕ
  pub length : ℕ

-- whether the `axis` record was seen, and the repeat that has no `end` yet
pub record AxisReading : Type 0 where
  pub seen : Bool
  pub unended : Option OpenRepeat

-- ---- the numbers of what is held

abbrev pub repeat_numbers : GridTemplateComponent → OpenRepeat
repeat_numbers c = record { kind = count_kind c.count; number = count_number c.count; first = c.first; length = c.length }

abbrev pub unended_numbers : Option GridTemplateComponent → Option OpenRepeat
unended_numbers None = None
unended_numbers (Some c) = Some (repeat_numbers c)

abbrev pub axis_reading : HeldReading → AxisReading
axis_reading r = record { seen = r.seen; unended = unended_numbers r.unended }
