-- An end of a known kind: the first of its faults, and the kind and the number that are read. Assumes nothing.
use Rattle.std.specs.Prelude.{ℕ, ◌≡◌, pos, Result, Ok, Err, refl}
use Rattle.std.proofs.Common.{◌∙◌, ap}
use Rattle.std.specs.Result.{result_err, result_unwrap_or}
use Rattle.coordinates.specs.declared.refusal.Fault.{Fault}
use Rattle.coordinates.specs.Refusals.{fault_number, refused_by}
use Rattle.sheet_forms.specs.declared.PlaceEnd.{PlaceEnd}
use Rattle.sheet_forms.specs.Faults.{first_of}
use Rattle.sheet_forms.specs.Answers.{EndField, end_kind_number, place_end, end_of_kind}
use Rattle.sheet_fields.proofs.ends.known_end.Goals as goal

err_number : {A : Type 0} (r : Result A Fault) → fault_number (result_err r) ≡ refused_by r
err_number (Ok a) = refl
err_number (Err fault) = refl

number_fault : (kind : ℕ) (r : Result PlaceEnd Fault) → refused_by r ≡ (end_of_kind kind r).fault
number_fault kind (Ok e) = refl
number_fault kind (Err fault) = refl

read_beside : (kind : ℕ) (r : Result PlaceEnd Fault) (other : PlaceEnd) → place_end other ≡ record { kind = kind; number = pos 0 }
    → place_end (result_unwrap_or r other) ≡ (end_of_kind kind r).end
read_beside kind (Ok e) other h = refl
read_beside kind (Err fault) other h = h

pub returns : goal.returns
unfolding first_of
returns c =
    let k = end_kind_number c.args.kind in
    let read = c.end_number-end.result in
    let number = number_fault k read ∙ ap (λ (e : EndField). e.fault) c.end_number-end.ensures in
    let fault = ap fault_number c.err.ensures.value ∙ err_number c.both.result ∙ c.both.ensures.fault in
    let end = ap place_end c.unwrap_or.ensures ∙ read_beside k read c.without_number.result c.without_number.ensures ∙ ap (λ (e : EndField). e.end) c.end_number-end.ensures in
    λ i. record { fault = (fault ∙ (λ j. first_of (c.end_name.ensures j) (number j))) i; end = end i }
