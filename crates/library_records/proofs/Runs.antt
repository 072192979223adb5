-- A run as a whole: what an accepted one needs, and what each leaves. Assumes nothing.
use Prim.Native.Nat.{ℕ, ◌+◌, ◌*◌, ◌≤◌, ◌<◌}
use mathlib.Core.Path.{◌≡◌, refl}
use mathlib.Core.Bool.{Bool, true, false, cond, ◌||◌}
use mathlib.Core.List.{List}
use native.Mathlib.Omega.{arith}
use borrow.Author.Tests.{eq-eqb, ne_eqb, leb-false, ltb-false}
use lib.Dec.{leb, ltb}
use lib.ListN.{length}
use lib.Seq.{sets}
use Rattle.coordinates.specs.Refusals.{number_of, count, short}
use Rattle.track_rules.specs.Records.{tracks_in, records_in}
use Rattle.coordinates.proofs.Faults.{fault_some}
use Rattle.axis_tables.specs.declared.AxisGrid.{AxisGrid}
use Rattle.panel_rules.specs.Calls.{axis_tracks}
use Rattle.coordinates.specs.declared.refusal.Fault.{Fault}
use Rattle.library_numbers.specs.Answers.{counted, uncounted}
use Rattle.library_numbers.specs.Records.{run_words, run_refusal, run_count, written_run}

neither : (x y : Bool) → (x || y) ≡ false → x ≡ false
neither true y e = e
neither false y e = refl

-- one that is not refused starts at a record that there is, and has the item bytes
pub unrefused : (s : AxisGrid) (items lent first : ℕ) → run_refusal s items lent first ≡ 0 → (first < records_in (axis_tracks s)) × (tracks_in (axis_tracks s) ≤ items)
unfolding run_refusal
unrefused s items lent first = go (leb (records_in (axis_tracks s)) first) (ltb items (tracks_in (axis_tracks s)) || ltb lent 3) refl refl
  where
    go : (a b : Bool) → leb (records_in (axis_tracks s)) first ≡ a → (ltb items (tracks_in (axis_tracks s)) || ltb lent 3) ≡ b → cond a count (cond b short 0) ≡ 0
        → (first < records_in (axis_tracks s)) × (tracks_in (axis_tracks s) ≤ items)
    go true b e f z = absurd (omega (arith, z))
    go false true e f z = absurd (omega (arith, z))
    go false false e f z =
        (leb-false (records_in (axis_tracks s)) first e, ltb-false items (tracks_in (axis_tracks s)) (neither (ltb items (tracks_in (axis_tracks s))) (ltb lent 3) f))

-- the records that it writes are there, and fit
pub count_fits : (s : AxisGrid) (lent first n : ℕ) → first ≤ records_in (axis_tracks s) → n ≡ run_count s lent first →
    (first + n ≤ records_in (axis_tracks s)) × (3 * n ≤ lent)
unfolding run_count
count_fits s lent first n h e = (omega (arith, h, e), omega (arith, e))

module _ (s : AxisGrid) (words items : List ℕ) (first : ℕ) (lent : List ℕ) where
  pub run-refused : (fault : Fault) → number_of fault ≡ run_refusal s (length items) (length lent) first →
      record { answer = uncounted (number_of fault); words = lent } ≡ written_run s words items first lent
  unfolding written_run
  run-refused fault e = rw (← e, ne_eqb (number_of fault) 0 (fault_some fault))

  pub run-written : (n : ℕ) (after : List ℕ) → run_refusal s (length items) (length lent) first ≡ 0 → n ≡ run_count s (length lent) first →
      after ≡ sets lent 0 (run_words s words items first n) →
      record { answer = counted n; words = after } ≡ written_run s words items first lent
  unfolding written_run
  run-written n after z e w = rw (eq-eqb (run_refusal s (length items) (length lent) first) 0 z, w, e)
