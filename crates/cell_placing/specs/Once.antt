-- What is known in a cell's turn is one fact at most, so that a type can hold it.
use Rattle.std.specs.Prelude.{ℕ, zero, suc, List, Option, Some, None}
use Rattle.std.specs.Coded.{coded_ℕ, Coded-set, ×_prop, Π_prop, Unit-prop, le_prop}
use mathlib.Core.HLevel.{⊥_prop}
use Rattle.cell_sides.specs.declared.Side.{Side}
use Rattle.cell_sides.specs.declared.Side.TheVariants.{Free, Fixed}
use Rattle.coordinates.specs.Types.{LinePair}
use Rattle.free_cells.specs.declared.Rectangle.{Rectangle}
use Rattle.cell_placing.specs.declared.Item.{Item}
use Rattle.cell_placing.specs.declared.Packing.{Packing}
use Rattle.cell_placing.specs.declared.Packing.TheVariants.{Sparse, Dense}
use Rattle.cell_placing.specs.Css.{Keeps, On, Fits, Past, Candidate, First}
use Rattle.cell_placing.specs.Steps.{Going, Ready}

Keeps-prop : (s : Option Side) (l : LinePair) → IsProp (Keeps s l)
Keeps-prop None l = ⊥_prop
Keeps-prop (Some (Free k)) l = Coded-set coded_ℕ _ _
Keeps-prop (Some (Fixed own)) l = ×_prop (Coded-set coded_ℕ _ _) (Coded-set coded_ℕ _ _)

On-prop : (last : ℕ) (l : LinePair) → IsProp (On last l)
On-prop last l p q i = record { first = le_prop p.first q.first i; order = le_prop p.order q.order i; final = le_prop p.final q.final i }

Fits-prop : (last : ℕ) (item : Item) (r : Rectangle) → IsProp (Fits last item r)
Fits-prop last item r p q i =
    record {
      columns = Keeps-prop item.column r.columns p.columns q.columns i;
      rows = Keeps-prop item.row r.rows p.rows q.rows i;
      across = On-prop last r.columns p.across q.across i;
      down = On-prop _ r.rows p.down q.down i;
    }

Past-prop : (packing : Packing) (group count : ℕ) (items : ℕ → Item) (lands : ℕ → Rectangle) (i : ℕ) (r : Rectangle) → IsProp (Past packing group count items lands i r)
Past-prop Dense group count items lands i r = Unit-prop
Past-prop Sparse zero count items lands i r = Unit-prop
Past-prop Sparse (suc zero) count items lands i r = Π_prop (λ j. Π_prop (λ e. Π_prop (λ g. Π_prop (λ s. le_prop))))
Past-prop Sparse (suc (suc g)) count items lands i r = Π_prop (λ j. Π_prop (λ l. Π_prop (λ b. ⊥_prop)))

module _ (packing : Packing) (last count : ℕ) where
  Candidate-prop : (items : ℕ → Item) (lands : ℕ → Rectangle) (i : ℕ) (r : Rectangle) → IsProp (Candidate packing last count items lands i r)
  Candidate-prop items lands n r p q i =
      record {
        fits = Fits-prop last (items n) r p.fits q.fits i;
        free = Π_prop (λ out. Π_prop (λ j. Π_prop (λ e. Π_prop (λ o. ⊥_prop)))) p.free q.free i;
        past = Past-prop packing _ count items lands n r p.past q.past i;
      }

  First-prop : (items : ℕ → Item) (lands : ℕ → Rectangle) (i : ℕ) (r : Rectangle) → IsProp (First packing last count items lands i r)
  First-prop items lands n r p q i =
      record { one = Candidate-prop items lands n r p.one q.one i; first = Π_prop (λ x. Π_prop (λ c. Π_prop (λ b. ⊥_prop))) p.first q.first i }

  Going-prop : (items placed : List ℕ) (time : ℕ) → IsProp (Going packing last count items placed time)
  Going-prop items placed time p q i =
      record {
        few = le_prop p.few q.few i;
        whole = Coded-set coded_ℕ _ _ p.whole q.whole i;
        landed = Π_prop (λ j. Π_prop (λ h. Π_prop (λ t. First-prop _ _ j _))) p.landed q.landed i;
        later = Π_prop (λ j. Π_prop (λ h. Π_prop (λ t. Coded-set coded_ℕ _ _))) p.later q.later i;
      }

  pub Ready-prop : (items placed : List ℕ) (i : ℕ) → IsProp (Ready packing last count items placed i)
  Ready-prop items placed n p q i = record { held = le_prop p.held q.held i; going = Going-prop items placed _ p.going q.going i }
