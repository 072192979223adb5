-- The answers of a panel, from what its calls answer and leave. Assumes nothing.
use Prim.Native.Nat.{ℕ, ◌-◌, ◌≤◌, min}
use mathlib.Core.Path.{◌≡◌, refl, ap, ◌∙◌}
use mathlib.Core.Bool.{Bool, true, false, cond, true≢false}
use mathlib.Core.List.{List}
use native.Mathlib.Omega.{arith}
use lib.Dec.{eqb}
use lib.IntN.{ℤ}
use lib.Seq.{sets}
use lib.ListN.{length}
use Rattle.std.specs.Prelude.{Result, Ok, Err}
use Rattle.std.specs.Result.{is_err, result_unwrap_or}
use Rattle.coordinates.specs.declared.refusal.Fault.{Fault}
use Rattle.panel_tables.specs.declared.Grid.{Grid}
use Rattle.sheet_rules.specs.declared.LineFault.{LineFault}
use Rattle.panel_rules.specs.Calls.{shorter_store}
use Rattle.library_numbers.specs.Answers.{counted, uncounted, answered_count_numbers}
use Rattle.panel_resolving.specs.Placements.{WrittenNumbers, numbers_count, numbers_refusal, run_numbers, placements_written}
use Rattle.panel_hits.specs.Settled.{Lent}
use Rattle.cell_placing.specs.declared.Packing.{Packing}
use Rattle.cell_placing.specs.Css.{placed, refused as stuck}
use Rattle.panel_placing.specs.Cells.{cells_in, answer_of, CellsAnswered, refused, answered}
use Rattle.panel_trial.specs.Trial.{all_placements}

count_or : (r : Result ℕ Fault) → result_unwrap_or r 0 ≡ (answered_count_numbers r).count
count_or (Ok n) = refl
count_or (Err fault) = refl

module _ (g : Grid) (l : Lent) where
  -- at most 512 placements are written
  pub few-written : (numbers : List ℤ) → (all_placements g l numbers).answer.count ≤ 512
  unfolding placements_written numbers_count
  few-written numbers = go (eqb (numbers_refusal g.placements (shorter_store l.names) 0) 0)
    where
      written : Bool → WrittenNumbers
      written b =
          cond b
          (record { answer = counted (min 512 (g.placements - 0)); numbers = sets numbers 0 (run_numbers g l.names l.areas l.placements 0 (min 512 (g.placements - 0))) })
          (record { answer = uncounted (numbers_refusal g.placements (shorter_store l.names) 0); numbers = numbers })

      go : (b : Bool) → (written b).answer.count ≤ 512
      go true = omega arith
      go false = omega arith

  -- as many are counted as its answer says, none where it is refused
  pub written-count : (numbers after : List ℤ) (r : Result ℕ Fault) → record { answer = answered_count_numbers r; numbers = after } ≡ all_placements g l numbers
      → result_unwrap_or r 0 ≡ (all_placements g l numbers).answer.count
  written-count numbers after r e = count_or r ∙ ap (λ (w : WrittenNumbers). w.answer.count) e

  -- a refused placing leaves the words as they were
  pub lands-stay : (packing : Packing) (before after : List ℕ) (told : LineFault) → CellsAnswered g l packing before after (Err told) → after ≡ before
  lands-stay packing before after told (refused fault e same f) = same
  lands-stay packing before after told (answered none items all outcome (placed words len lands written e) f) = absurd (true≢false (ap is_err (f ∙ ap (answer_of l (length (cells_in g l))) e)))
  lands-stay packing before after told (answered none items all outcome (stuck k first same e) f) = same
