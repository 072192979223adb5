-- The first of two faults by their numbers, and parts of a line together. Assumes nothing.
use Rattle.std.specs.Prelude.{◌≡◌, Bool, true, false, cond, eqb, leb, Result, Ok, Err, refl}
use Rattle.std.proofs.Common.{sym, ◌∙◌, ap}
use native.Mathlib.Omega.{arith}
use mathlib.Core.Bool.{false≢true}
use borrow.Author.Tests.{eq-eqb}
use Rattle.coordinates.specs.declared.refusal.Fault.{Fault}
use Rattle.coordinates.specs.declared.refusal.Fault.TheVariants.{Unread, Name, Value, Count, Area, Twice, Late, Crowded, ZeroLine, Short, Indefinite, Overlap, Unequal, Broken, Unplaced, HistoryFull, NoStep}
use Rattle.coordinates.specs.Refusals.{number_of, refused_by}
use Rattle.sheet_forms.specs.Faults.{rank_of, first_of}
use Rattle.sheet_forms.specs.Answers.{first_named, both_of, value_or}

-- a fault has a number
pub fault_number : (f : Fault) → eqb (number_of f) 0 ≡ false
fault_number Unread = refl
fault_number Name = refl
fault_number Value = refl
fault_number Count = refl
fault_number Area = refl
fault_number Twice = refl
fault_number Late = refl
fault_number Crowded = refl
fault_number ZeroLine = refl
fault_number Short = refl
fault_number Indefinite = refl
fault_number Overlap = refl
fault_number Unequal = refl
fault_number Broken = refl
fault_number Unplaced = refl
fault_number HistoryFull = refl
fault_number NoStep = refl

pub fault_some : (f : Fault) → number_of f ≡ 0 → ⊥
fault_some f e = false≢true (sym (fault_number f) ∙ eq-eqb (number_of f) 0 e)

pub number_first : (f g : Fault) → number_of (first_named f g) ≡ first_of (number_of f) (number_of g)
unfolding first_of
number_first f g = rw (fault_number f, fault_number g) (go (leb (rank_of (number_of f)) (rank_of (number_of g))))
  where
    go : (t : Bool) → number_of (cond t f g) ≡ cond t (number_of f) (number_of g)
    go true = refl
    go false = refl

-- the fault of two parts is the first of theirs
pub both_fault : {A B : Type 0} (a : Result A Fault) (b : Result B Fault) → refused_by (both_of a b) ≡ first_of (refused_by a) (refused_by b)
unfolding first_of
both_fault (Ok a) (Ok b) = refl
both_fault (Ok a) (Err g) = refl
both_fault (Err f) (Ok b) = rw (fault_number f) refl
both_fault (Err f) (Err g) = number_first f g

-- and their values are both theirs
pub record BothOk {A B : Type 0} (a : Result A Fault) (b : Result B Fault) (p : A × B) : Type 0 where
  pub first : a ≡ Ok p.0
  pub second : b ≡ Ok p.1

pub both_ok : {A B : Type 0} (a : Result A Fault) (b : Result B Fault) (p : A × B) → Ok p ≡ both_of a b → BothOk a b p
both_ok (Ok a) (Ok b) p e = record { first = ap (λ r. Ok (value_or p r).0) (sym e); second = ap (λ r. Ok (value_or p r).1) (sym e) }
both_ok (Ok a) (Err g) p e = grind arith
both_ok (Err f) (Ok b) p e = grind arith
both_ok (Err f) (Err g) p e = grind arith
