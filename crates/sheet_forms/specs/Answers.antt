-- What the fields of a line give, in this paper's numbers and values: the number of a fault, 0 where there is none, and beside it a value, which
-- is 0 where there is a fault. Below these are the numbers and values of what the reader's calls answer.
use Rattle.std.specs.Prelude.{ℕ, Bool, true, false, cond, eqb, leb, ℤ, pos, Option, Some, None, Result, Ok, Err}
use Rattle.coordinates.specs.declared.axis.Axis.{Axis as AxisName}
use Rattle.coordinates.specs.declared.axis.Axis.TheVariants.{Column}
use Rattle.coordinates.specs.declared.refusal.Fault.{Fault as RefusedFor}
use Rattle.coordinates.specs.Refusals.{number_of, fault_number, refused_by}
use Rattle.sizing.specs.declared.kind.Kind.{Kind}
use Rattle.sizing.specs.Kinds.{number_of_kind}
use Rattle.template_rules.specs.declared.AutoRepeatStrategy.{AutoRepeatStrategy}
use Rattle.template_rules.specs.declared.AutoRepeatStrategy.TheVariants.{MaxRepetitionsThatDoNotOverflow}
pub use Rattle.template_rules.specs.Strategies.{rule_number}
use Rattle.sheet_forms.specs.declared.AxisRecord.{AxisRecord as AxisRead}
use Rattle.sheet_forms.specs.declared.Repetition.{Repetition}
use Rattle.sheet_forms.specs.declared.Repetition.TheVariants.{Count, Fill, Fit}
use Rattle.sheet_forms.specs.declared.EndKind.{EndKind}
use Rattle.sheet_forms.specs.declared.EndKind.TheVariants.{Auto, Line, Named, Span, NamedSpan}
use Rattle.sheet_forms.specs.declared.PlaceEnd.{PlaceEnd as EndRead}
use Rattle.sheet_forms.specs.declared.PlaceEnd.TheVariants.{Auto as AutoEnd, Line as LineEnd, Named as NamedEnd, Span as SpanEnd, NamedSpan as NamedSpanEnd}
use Rattle.sheet_forms.specs.declared.EndField.{EndField as FieldsRead}
use Rattle.sheet_forms.specs.declared.Record.{Record as Read}
use Rattle.sheet_forms.specs.declared.Record.TheVariants.{Axis as ReadAxis, Area as ReadArea, Name as ReadName, Track as ReadTrack, Repeat as ReadRepeat, End as ReadEnd, Spare as ReadSpare, Extra as ReadExtra, Item as ReadItem, Place as ReadPlace, PictureRow as ReadRow, Cell as ReadCell}
use Rattle.sheet_forms.specs.Faults.{rank_of}
use Rattle.sheet_forms.specs.Said.{AxisRecord, RepeatRecord, PlaceEnd, Record, Fault, Axis, Area, Name, Track, Repeat, End, Spare, Extra, Item, Place, PictureRow, Cell}

pub record Field : Type 0 where
  pub fault : ℕ
  pub value : ℕ

pub record AxisField : Type 0 where
  pub fault : ℕ
  pub axis : AxisName

pub record NumberField : Type 0 where
  pub fault : ℕ
  pub value : ℤ

pub record EndField : Type 0 where
  pub fault : ℕ
  pub end : PlaceEnd

pub record SizeField : Type 0 where
  pub fault : ℕ
  pub word : ℕ

pub record InnerField : Type 0 where
  pub fault : ℕ
  pub definite : Bool
  pub bits : ℕ

-- ---- the numbers and values of what a call answers

-- the one of two faults that is named
abbrev pub first_named : RefusedFor → RefusedFor → RefusedFor
first_named f g = cond (leb (rank_of (number_of f)) (rank_of (number_of g))) f g

-- two values, or the fault of one, or of both the one that is named
abbrev pub both_of : {A B : Type 0} → Result A RefusedFor → Result B RefusedFor → Result (A × B) RefusedFor
both_of (Ok a) (Ok b) = Ok (a, b)
both_of (Ok a) (Err g) = Err g
both_of (Err f) (Ok b) = Err f
both_of (Err f) (Err g) = Err (first_named f g)

-- the value, or another where there is a fault
abbrev pub value_or : {A : Type 0} → A → Result A RefusedFor → A
value_or other (Ok a) = a
value_or other (Err fault) = other

abbrev pub number_said : Result ℕ RefusedFor → Field
number_said r = record { fault = refused_by r; value = value_or 0 r }

abbrev pub axis_said : Result AxisName RefusedFor → AxisField
axis_said r = record { fault = refused_by r; axis = value_or Column r }

abbrev pub integer_said : Result ℤ RefusedFor → NumberField
integer_said r = record { fault = refused_by r; value = value_or (pos 0) r }

abbrev pub size_said : Result ℕ RefusedFor → SizeField
size_said r = record { fault = refused_by r; word = value_or 0 r }

-- whether an inner size is definite, and its bits
abbrev pub is_definite : Option ℕ → Bool
is_definite None = false
is_definite (Some bits) = true

abbrev pub bits_said : Option ℕ → ℕ
bits_said None = 0
bits_said (Some bits) = bits

abbrev pub inner_said : Result (Option ℕ) RefusedFor → InnerField
inner_said r = record { fault = refused_by r; definite = is_definite (value_or None r); bits = bits_said (value_or None r) }

abbrev pub rule_said : Result AutoRepeatStrategy RefusedFor → Field
rule_said r = record { fault = refused_by r; value = rule_number (value_or MaxRepetitionsThatDoNotOverflow r) }

abbrev pub repetition_said : Result Repetition RefusedFor → RepeatRecord
repetition_said (Ok (Count n)) = record { fault = 0; kind = 0; number = n }
repetition_said (Ok Fill) = record { fault = 0; kind = 1; number = 0 }
repetition_said (Ok Fit) = record { fault = 0; kind = 2; number = 0 }
repetition_said (Err fault) = record { fault = number_of fault; kind = 0; number = 0 }

-- kinds of ends in the order of their words: `auto line named span nspan`
abbrev pub end_kind_number : EndKind → ℕ
end_kind_number Auto = 0
end_kind_number Line = 1
end_kind_number Named = 2
end_kind_number Span = 3
end_kind_number NamedSpan = 4

-- a word that names none is unread
abbrev pub kind_said : Option EndKind → Field
kind_said (Some kind) = record { fault = 0; value = end_kind_number kind }
kind_said None = record { fault = 1; value = 0 }

-- kinds of sizes in the order of theirs: `len pct fr auto min max fitl fitp`
abbrev pub size_kind_said : Option Kind → Field
size_kind_said (Some kind) = record { fault = 0; value = number_of_kind kind }
size_kind_said None = record { fault = 1; value = 0 }

abbrev pub place_end : EndRead → PlaceEnd
place_end AutoEnd = record { kind = 0; number = pos 0 }
place_end (LineEnd n) = record { kind = 1; number = n }
place_end (NamedEnd n) = record { kind = 2; number = n }
place_end (SpanEnd n) = record { kind = 3; number = n }
place_end (NamedSpanEnd n) = record { kind = 4; number = n }

abbrev pub unwritten_end : PlaceEnd
unwritten_end = record { kind = 0; number = pos 0 }

abbrev pub end_or_none : Result EndRead RefusedFor → PlaceEnd
end_or_none (Ok e) = place_end e
end_or_none (Err fault) = unwritten_end

abbrev pub end_said : Result EndRead RefusedFor → EndField
end_said r = record { fault = refused_by r; end = end_or_none r }

-- an end as its fields are read, and what is read of it beside a fault
abbrev pub end_field : FieldsRead → EndField
end_field e = record { fault = fault_number e.fault; end = place_end e.end }

-- an end of a kind by its number, and that kind with number 0 beside a fault
abbrev pub end_of_kind : ℕ → Result EndRead RefusedFor → EndField
end_of_kind kind (Ok e) = record { fault = 0; end = place_end e }
end_of_kind kind (Err fault) = record { fault = number_of fault; end = record { kind = kind; number = pos 0 } }

-- an end where it was read, and nothing of it beside a fault
abbrev pub end_where_read : EndField → EndField
end_where_read e = record { fault = e.fault; end = cond (eqb e.fault 0) e.end unwritten_end }

abbrev pub axis_record : AxisRead → AxisRecord
axis_record a = record { axis = a.axis; definite = is_definite a.inner; inner = bits_said a.inner; rule = rule_number a.rule; gap = a.gap }

-- what a line says: its record, or the number of its fault
abbrev pub said_of : Result Read RefusedFor → Record
said_of (Err fault) = Fault (number_of fault)
said_of (Ok (ReadAxis a)) = Axis (axis_record a)
said_of (Ok (ReadArea a)) = Area a
said_of (Ok (ReadName a)) = Name a
said_of (Ok (ReadTrack a sizes)) = Track a sizes.min sizes.max
said_of (Ok (ReadRepeat a n)) = Repeat a (repetition_said n)
said_of (Ok (ReadEnd a)) = End a
said_of (Ok (ReadSpare a sizes)) = Spare a sizes.min sizes.max
said_of (Ok (ReadExtra a n p)) = Extra a n p
said_of (Ok (ReadItem a i)) = Item a i
said_of (Ok (ReadPlace a ends)) = Place a (place_end ends.start) (place_end ends.end)
said_of (Ok (ReadRow n)) = PictureRow n
said_of (Ok (ReadCell c)) = Cell (place_end c.columns.start) (place_end c.columns.end) (place_end c.rows.start) (place_end c.rows.end)
