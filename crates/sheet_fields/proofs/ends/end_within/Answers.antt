-- An end by its kind, where a field names one; else unread, and no name and no number is read. Assumes nothing.
use Rattle.std.specs.Prelude.{ℕ, ◌≡◌, List, Bool, true, false, cond, pos, refl}
use Rattle.std.proofs.Common.{sym, ◌∙◌, ap}
use Rattle.text.specs.Split.{same}
use Rattle.sheet_forms.specs.Answers.{Field}
use Rattle.sheet_forms.specs.Words.{nought}
use Rattle.sheet_forms.specs.Faults.{first_of}
use Rattle.sheet_forms.specs.Ends.{faulty_number, end_name, end_number, made_end, end_within}
use Rattle.sheet_forms.proofs.Firsts.{first_one}
use Rattle.sheet_fields.proofs.ends.end_within.Goals as goal

-- `auto` has number 0, also where its field is unread
number_unused : (least most : ℕ) (f : List ℕ) → (end_number least most 0 f).value ≡ pos 0
unfolding end_number
number_unused least most f = go (same f nought)
  where
    go : (t : Bool) → (cond t (faulty_number 0) (faulty_number 1)).value ≡ pos 0
    go true = refl
    go false = refl

-- nothing comes before an unread kind
no_kind : (least most : ℕ) (name number : List ℕ)
    → made_end (record { fault = 1; value = 0 }) (end_name 0 name) (end_number least most 0 number) ≡ record { fault = 1; end = record { kind = 0; number = pos 0 } }
no_kind least most name number =
    λ i. record { fault = first_one 1 (first_of (end_name 0 name) (end_number least most 0 number).fault) refl i; end = record { kind = 0; number = number_unused least most number i } }

pub returns-in-Some : goal.returns-in-Some
unfolding end_within
returns-in-Some c =
    let a = c.args in
    c.known_end.ensures ∙ ap (λ (kind : Field). made_end kind (end_name kind.value a.name.now) (end_number a.least a.most kind.value a.number.now)) c.in-Some.ensures

pub returns-in-None : goal.returns-in-None
unfolding end_within
returns-in-None c =
    let a = c.args in
    sym (no_kind a.least a.most a.name.now a.number.now)
    ∙ ap (λ (kind : Field). made_end kind (end_name kind.value a.name.now) (end_number a.least a.most kind.value a.number.now)) c.in-None.ensures
