-- The answer for an axis (document 02, Req 12): "refused by 3" where there is nothing to ask for. The laws in proofs/Asked.antt say that it is so exactly
-- there, and that the answer is the least resize elsewhere (Asked.antt).
use Rattle.std.specs.Prelude.{ℕ, cond, List, eqb, Float, Option, Some, None, Result, Ok, Err}
use Rattle.coordinates.specs.Refusals.{value, number_of}
use Rattle.coordinates.specs.declared.refusal.Fault.{Fault}
use Rattle.sizing.specs.Definite.{length_alone}
use Rattle.sizing.specs.Words.{float_up_to, largest_bits}
use Rattle.sizing.specs.declared.Sizing.{Sizing}
use Rattle.template_rules.specs.Template.{Component}
use Rattle.template_rules.specs.declared.AutoRepeatStrategy.{AutoRepeatStrategy}
use Rattle.explicit_size.specs.Repeat.{repeats_automatically}
use Rattle.least_resize.specs.declared.ResizeAnswer.{ResizeAnswer}
use Rattle.least_resize.specs.Search.{repetitions_at, least_resize}
use Rattle.least_resize.specs.Whole.{whole_size_of}

-- the size now: `definite` is 0 where the axis has no inner size, `inner` its bits
abbrev pub size_now : ℕ → ℕ → Option ℕ
size_now definite inner = cond (eqb definite 0) None (whole_size_of (float_up_to largest_bits inner))

-- the answer is the size, not the change
abbrev pub found_resize : Option ℕ → ResizeAnswer
found_resize (Some s) = record { number = 0; found = 1; size = s }
found_resize None = record { number = 0; found = 0; size = 0 }

abbrev pub refused_resize : ResizeAnswer
refused_resize = record { number = value; found = 0; size = 0 }

abbrev pub resize_by : AutoRepeatStrategy → Option Float → Option ℕ → List Component → ResizeAnswer
resize_by strategy (Some gap) (Some size) cs = found_resize (least_resize (repetitions_at strategy gap cs) size)
resize_by strategy (Some gap) None cs = refused_resize
resize_by strategy None size cs = refused_resize

-- the gap has to be a length
unfoldable pub resize_answer : ℕ → ℕ → AutoRepeatStrategy → Sizing → List Component → ResizeAnswer
resize_answer definite inner strategy gap cs = cond (repeats_automatically cs) (resize_by strategy (length_alone gap) (size_now definite inner) cs) refused_resize

-- ---- what a call takes and answers, in these numbers

-- an inner size by its two numbers: whether there is one, and its bits
abbrev pub definite_number : Option ℕ → ℕ
definite_number (Some bits) = 1
definite_number None = 0

abbrev pub bits_of_inner : Option ℕ → ℕ
bits_of_inner (Some bits) = bits
bits_of_inner None = 0

-- and an inner size from them
abbrev pub inner_by : ℕ → ℕ → Option ℕ
inner_by definite inner = cond (eqb definite 0) None (Some inner)

-- a size or none, or the number of a fault with zeros beside it
abbrev pub answered_resize : Result (Option ℕ) Fault → ResizeAnswer
answered_resize (Ok resize) = found_resize resize
answered_resize (Err fault) = record { number = number_of fault; found = 0; size = 0 }
