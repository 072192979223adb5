-- What placements by argument are answered, from the tables that they stand in and the run of these. Assumes nothing.
use Prim.Native.Nat.{ℕ, ◌-◌, ◌≤◌, min}
use mathlib.Core.Path.{◌≡◌, refl, ap, ◌∙◌}
use mathlib.Core.Bool.{Bool, true, false, cond}
use mathlib.Core.List.{List}
use native.Mathlib.Omega.{arith}
use borrow.Author.Tests.{ne_eqb, ltb-false}
use lib.Dec.{eqb, ltb}
use lib.IntN.{ℤ}
use lib.ListN.{length}
use lib.Seq.{sets}
use Rattle.std.specs.Prelude.{Result, Ok, Err}
use Rattle.coordinates.specs.declared.refusal.Fault.{Fault}
use Rattle.coordinates.specs.Refusals.{number_of, crowded, short}
use Rattle.coordinates.proofs.Faults.{fault_some}
use Rattle.name_rules.specs.Css.{Bytes}
use Rattle.panel_tables.specs.declared.Grid.{Grid}
use Rattle.panel_rules.specs.Calls.{NameTables, NamedWords, shorter_store}
use Rattle.library_numbers.specs.Answers.{counted, uncounted, answered_count_numbers}
use Rattle.panel_resolving.specs.Placements.{WrittenNumbers, numbers_count, numbers_refusal, run_numbers, placements_written}
use Rattle.given_placements.specs.declared.GivenFault.{GivenFault}
use Rattle.given_placements.specs.declared.GivenPlacement.{GivenPlacement}
use Rattle.given_placements.specs.Given.{names_missing, call_fault, GivenTables, tables_of, answered_given, given_grid, run_given, given_beside}

-- at most 512 are counted
counted-few : (g : Grid) (t : NameTables) (areas placements : NamedWords) (numbers : List ℤ) → (placements_written g t areas placements 0 numbers).answer.count ≤ 512
unfolding placements_written numbers_count
counted-few g t areas placements numbers = go (eqb (numbers_refusal g.placements (shorter_store t) 0) 0)
  where
    written : Bool → WrittenNumbers
    written b =
        cond b
        (record { answer = counted (min 512 (g.placements - 0)); numbers = sets numbers 0 (run_numbers g t areas placements 0 (min 512 (g.placements - 0))) })
        (record { answer = uncounted (numbers_refusal g.placements (shorter_store t) 0); numbers = numbers })

    go : (b : Bool) → (written b).answer.count ≤ 512
    go true = omega arith
    go false = omega arith

module _ (g : Grid) (t : NameTables) (areas : NamedWords) (lent : List ℤ) where
  -- a refused placement
  pub refused-beside : (x : GivenTables) (told : GivenFault) (w b : List ℕ) → tables_of (Err told) w b ≡ x
      → record { answer = answered_given (Err told); numbers = lent } ≡ given_beside g t areas x lent
  refused-beside x told w b e = rw (← e, ne_eqb (number_of told.fault) 0 (fault_some told.fault))

  module _ (x : GivenTables) (n : ℕ) (w b : List ℕ) (own : Grid) (numbers : List ℤ) (e : tables_of (Ok n) w b ≡ x) (same : own ≡ given_grid g n) where
    abbrev Ran : Result ℕ Fault → Type 0
    Ran r = record { answer = answered_count_numbers r; numbers = numbers } ≡ placements_written own t areas (record { words = w; bytes = b }) 0 lent

    run-beside : (r : Result ℕ Fault) → Ran r → run_given (record { answer = answered_count_numbers r; numbers = numbers }) ≡ given_beside g t areas x lent
    run-beside r ran = rw (← e) (ap run_given ran ∙ ap (λ (h : Grid). run_given (placements_written h t areas (record { words = w; bytes = b }) 0 lent)) same)

    pub run-answered : (m : ℕ) → Ran (Ok m) → record { answer = answered_given (Ok m); numbers = numbers } ≡ given_beside g t areas x lent
    run-answered m ran = run-beside (Ok m) ran

    pub run-refused : (fault : Fault) (told : GivenFault) → told ≡ record { fault = fault; index = 0 } → Ran (Err fault)
        → record { answer = answered_given (Err told); numbers = numbers } ≡ given_beside g t areas x lent
    run-refused fault told same ran = rw same (run-beside (Err fault) ran)

    pub run-few : (m : ℕ) → Ran (Ok m) → m ≤ 512
    run-few m ran = rw (ap (λ (v : WrittenNumbers). v.answer.count) ran) (counted-few own t areas (record { words = w; bytes = b }) lent)

-- a call that is not refused as a whole has at most 256 placements
pub call-few : (names : Bytes) (gs : List GivenPlacement) → call_fault names gs ≡ 0 → length gs ≤ 256
unfolding call_fault
call-few names gs = go (ltb 256 (length gs)) refl
  where
    go : (b : Bool) → ltb 256 (length gs) ≡ b → cond b crowded (cond (names_missing (length names) gs) short 0) ≡ 0 → length gs ≤ 256
    go true e z = absurd (omega (arith, z))
    go false e z = ltb-false 256 (length gs) e
