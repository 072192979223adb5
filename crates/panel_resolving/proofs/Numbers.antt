-- Resolved placements as numbers: they are small, eight for each, and how many are written. Assumes nothing.
use Prim.Native.Nat.{ℕ, suc, ◌+◌, ◌≤◌, ◌<◌}
use mathlib.Core.Path.{◌≡◌, refl, sym, ◌∙◌}
use mathlib.Core.Bool.{Bool, true, false, cond}
use mathlib.Core.List.{List, ◌++◌}
use native.Mathlib.Omega.{arith}
use borrow.Author.Tests.{eq-eqb, ne_eqb, leb-false, ltb-false}
use lib.Dec.{leb, ltb}
use lib.IntN.{ℤ}
use lib.ListN.{length, take, drop}
use lib.Seq.{sets, drop-drop}
use borrow.Rule.Slice.PartMut.{put_mid}
use Rattle.std.proofs.Common.{append_assoc}
use Rattle.std.proofs.lemmas.List.Edits.{sets-eq}
use Rattle.coordinates.specs.declared.axis.Axis.{Axis}
use Rattle.coordinates.specs.declared.axis.Axis.TheVariants.{Column, Row}
use Rattle.std.specs.Prelude.{Result, Ok, Err}
use Rattle.coordinates.specs.declared.refusal.Fault.{Fault}
use Rattle.coordinates.specs.declared.refusal.Fault.TheVariants.{Unread, Name, Value, Count, Area, Twice, Late, Crowded, ZeroLine, Short, Indefinite, Overlap, Unequal, Broken, Unplaced, HistoryFull, NoStep}
use Rattle.coordinates.specs.Refusals.{number_of, count, short}
use Rattle.coordinates.proofs.Faults.{fault_some}
use Rattle.name_resolver.specs.Types.{NonNamedGridPlacement}
use Rattle.coordinates.specs.declared.line.GenericGridPlacement.TheVariants.{Auto, Line as AtLine, Span}
use Rattle.name_resolver.specs.Placements.{resolved_kind_of}
use Rattle.panel_tables.specs.declared.Grid.{Grid}
use Rattle.panel_tables.specs.Placements.{axis_mark}
use Rattle.panel_rules.specs.Calls.{NameTables, NamedWords, shorter_store}
use Rattle.panel_rules.specs.declared.PlacedLine.{PlacedLine}
use Rattle.panel_rules.specs.Placing.{answered_placement}
use Rattle.library_numbers.specs.declared.PlacementNumbers.{PlacementNumbers}
use Rattle.library_numbers.specs.Answers.{mark_number, answered_count_numbers, placement_numbers}
use Rattle.panel_resolving.specs.Placements.{numbers_of, SmallNumbers, run_numbers, numbers_refusal, numbers_count, placements_written}

-- ---- the numbers are small

-- the number of a fault is at most 15
small-fault : (fault : Fault) → number_of fault < 2147483648
small-fault Unread = omega arith
small-fault Name = omega arith
small-fault Value = omega arith
small-fault Count = omega arith
small-fault Area = omega arith
small-fault Twice = omega arith
small-fault Late = omega arith
small-fault Crowded = omega arith
small-fault ZeroLine = omega arith
small-fault Short = omega arith
small-fault Indefinite = omega arith
small-fault Overlap = omega arith
small-fault Unequal = omega arith
small-fault Broken = omega arith
small-fault Unplaced = omega arith
small-fault HistoryFull = omega arith
small-fault NoStep = omega arith

small_axis : (a : Axis) (cell : Bool) → axis_mark a cell < 2147483648
small_axis Column true = omega arith
small_axis Column false = omega arith
small_axis Row true = omega arith
small_axis Row false = omega arith

small_kind : (e : NonNamedGridPlacement) → resolved_kind_of e < 2147483648
small_kind Auto = omega arith
small_kind (AtLine g) = omega arith
small_kind (Span k) = omega arith

small-mark : (m : Bool) → mark_number m < 2147483648
small-mark true = omega arith
small-mark false = omega arith

small_answer : (r : Result PlacedLine Fault) → (answered_placement r).refusal.number < 2147483648
small_answer (Ok p) = omega arith
small_answer (Err fault) = small-fault fault

pub small-numbers : (r : Result PlacedLine Fault) → SmallNumbers (placement_numbers (answered_placement r))
unfolding placement_numbers
small-numbers r =
    let a = answered_placement r in
    record {
      number = small_answer r;
      axis = small_axis a.axis a.cell;
      startkind = small_kind a.line.start;
      endkind = small_kind a.line.end;
      startheld = small-mark a.held.start;
      endheld = small-mark a.held.end;
    }

-- ---- eight numbers

-- eight numbers with those after them
pub put_on : (l : List ℤ) (place : ℕ) (n : PlacementNumbers) (rest : List ℤ) → sets l place (numbers_of n ++ rest) ≡ sets (sets l place (numbers_of n)) (place + 8) rest
put_on l place n rest = let e : place + 8 ≡ suc (suc (suc (suc (suc (suc (suc (suc place))))))) = omega arith in rw e

-- ---- a run as a whole

-- one that is not refused starts at a placement that is held
pub unrefused : (held shorter first : ℕ) → numbers_refusal held shorter first ≡ 0 → first < held
unfolding numbers_refusal
unrefused held shorter first = go (leb held first) (ltb shorter 32768) refl
  where
    go : (a b : Bool) → leb held first ≡ a → cond a count (cond b short 0) ≡ 0 → first < held
    go true b e z = absurd (omega (arith, z))
    go false b e z = leb-false held first e

-- with stores that are long enough
pub long_stores : (held shorter first : ℕ) → numbers_refusal held shorter first ≡ 0 → 32768 ≤ shorter
unfolding numbers_refusal
long_stores held shorter first = go (leb held first) (ltb shorter 32768) refl
  where
    go : (a b : Bool) → ltb shorter 32768 ≡ b → cond a count (cond b short 0) ≡ 0 → 32768 ≤ shorter
    go true b e z = absurd (omega (arith, z))
    go false true e z = absurd (omega (arith, z))
    go false false e z = ltb-false shorter 32768 e

-- no more are written than are held
pub few-written : (held first n : ℕ) → first < held → n ≡ numbers_count held first → first + n ≤ held
unfolding numbers_count
few-written held first n h e = omega (arith, e)

module _ (p : Grid) (t : NameTables) (areas placements : NamedWords) (first : ℕ) (lent : List ℤ) where
  pub run-refused : (fault : Fault) → number_of fault ≡ numbers_refusal p.placements (shorter_store t) first →
      record { answer = answered_count_numbers (Err fault); numbers = lent } ≡ placements_written p t areas placements first lent
  unfolding placements_written
  run-refused fault e = rw (← e, ne_eqb (number_of fault) 0 (fault_some fault))

  pub run-written : (n : ℕ) (after : List ℤ) → numbers_refusal p.placements (shorter_store t) first ≡ 0 →
      n ≡ numbers_count p.placements first → after ≡ sets lent 0 (run_numbers p t areas placements first n) →
      record { answer = answered_count_numbers (Ok n); numbers = after } ≡ placements_written p t areas placements first lent
  unfolding placements_written
  run-written n after z e w = rw (eq-eqb (numbers_refusal p.placements (shorter_store t) first) 0 z, w, e)

-- numbers copied over a part are those set from its first place on
pub numbers_put : (numbers after written : List ℤ) (place n : ℕ) → after ≡ written → n ≡ length written → place + n ≤ length numbers
    → put_mid place n numbers after ≡ sets numbers place written
numbers_put numbers after written place n a e h =
    let k : place + length written ≤ length numbers = omega arith in
    rw (a, e, drop-drop (length written) place numbers) (sym (append_assoc (take place numbers) written (drop (place + length written) numbers)) ∙ sym (sets-eq written numbers place k))
