-- The two lists with an axis as a number. Assumes nothing.
use Prim.Native.Nat.{ℕ, ◌≤◌}
use mathlib.Core.Path.{◌≡◌, ap, ◌∙◌}
use mathlib.Core.List.{List}
use borrow.Author.Tests.{le-leb}
use lib.IntN.{ℤ}
use Rattle.coordinates.specs.declared.axis.Axis.{Axis}
use Rattle.panel_tables.specs.declared.Grid.{Grid}
use Rattle.coordinates.specs.Axes.{axis_of}
use Rattle.library_numbers.specs.declared.CountAnswer.{CountAnswer}
use Rattle.panel_hits.specs.Lists.{HitsAnswer}
use Rattle.panel_hits.specs.Settled.{Lent}
use Rattle.panel_hits.specs.Lists.{WrittenHits, placements_within, placements_around}
use Rattle.palgwern.specs.Hits.{listed_hits, hits_within, hits_around}

-- an answer as a count
counted : (a : HitsAnswer) (hits : List ℕ) (r : CountAnswer) (w : WrittenHits) → r ≡ record { number = a.number; count = a.count } → record { answer = a; hits = hits } ≡ w
    → record { answer = r; hits = hits } ≡ listed_hits w
counted a hits r w e f = ap (λ (x : CountAnswer). record { answer = x; hits = hits }) e ∙ ap listed_hits f

module _ (g : Grid) (words : List ℕ) (l : Lent) (axis : ℕ) (items hits after : List ℕ) (x : Axis) (a : HitsAnswer)
    (is-axis : axis ≤ 1) (same : x ≡ axis_of axis) where
  pub within-counted : (r : CountAnswer) → r ≡ record { number = a.number; count = a.count } → (low high : ℕ)
      → record { answer = a; hits = after } ≡ placements_within g words l items (record { axis = x; bits = record { low = low; high = high } }) hits
      → record { answer = r; hits = after } ≡ hits_within g words l axis items low high hits
  unfolding hits_within
  within-counted r count low high w =
      rw (le-leb axis 1 is-axis)
      (counted a after r (placements_within g words l items (record { axis = axis_of axis; bits = record { low = low; high = high } }) hits) count
      (w ∙ ap (λ (y : Axis). placements_within g words l items (record { axis = y; bits = record { low = low; high = high } }) hits) same))

  pub around-listed : (line z : ℤ) → z ≡ line → record { answer = a; hits = after } ≡ placements_around g words l items (record { axis = x; line = z }) hits
      → listed_hits (record { answer = a; hits = after }) ≡ hits_around g words l axis items line hits
  unfolding hits_around
  around-listed line z e w =
      rw (le-leb axis 1 is-axis)
      (ap listed_hits
      (w ∙ ap (λ (y : Axis). placements_around g words l items (record { axis = y; line = z }) hits) same
      ∙ ap (λ (y : ℤ). placements_around g words l items (record { axis = axis_of axis; line = y }) hits) e))
