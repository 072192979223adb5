-- A run of placements, written axis by axis: eight numbers for each placement of the axis, the others' numbers as they are.
use Rattle.std.specs.Prelude.{◌≡◌, ℕ, zero, suc, ◌+◌, ◌/◌, Bool, true, false, cond, List, eqb, leb, ℤ}
use Rattle.std.proofs.lemmas.List.Edits.{sets}
use Rattle.coordinates.specs.declared.axis.Axis.{Axis}
use Rattle.name_resolver.specs.Types.{WrittenLine}
use Rattle.name_resolver.specs.Placements.{Resolution}
use Rattle.coordinates.specs.Axes.{axis_number}
use Rattle.panel_tables.specs.Placements.{placement_at}
use Rattle.panel_rules.specs.Placing.{line_placement, placed_by}
use Rattle.library_numbers.specs.Answers.{placement_numbers}
use Rattle.name_groups.specs.Groups.{index_fits}
use Rattle.name_groups.specs.declared.key.Grouping.{Grouping}
use Rattle.name_groups.specs.declared.key.Grouping.TheVariants.{Whole, Few, Many}
use Rattle.panel_resolving.specs.declared.axis_run.Run.{Run}
use Rattle.panel_resolving.specs.Placements.{numbers_of}
use Rattle.panel_resolving.specs.Whole.{whole_around}

-- of n placements from `first` on those that are chosen, written from `place` on
unfoldable pub chosen_sets : (ℕ → Bool) → (ℕ → List ℤ) → ℕ → ℕ → ℕ → List ℤ → List ℤ
chosen_sets chosen numbers place first zero lent = lent
chosen_sets chosen numbers place first (suc n) lent =
    chosen_sets chosen numbers (place + 8) (first + 1) n (cond (chosen first) (sets lent place (numbers first)) lent)

-- placement i is one of the axis
abbrev pub on_axis : Axis → List ℕ → ℕ → Bool
on_axis a placements i = eqb (axis_number (placement_at placements i).axis) (axis_number a)

-- its numbers, by what resolves a placement
abbrev pub numbers_by : (WrittenLine → Resolution) → List ℕ → ℕ → List ℤ
numbers_by resolve placements i =
    numbers_of (placement_numbers (placed_by (resolve (line_placement (placement_at placements i))) (placement_at placements i).axis (placement_at placements i).cell false))

-- the same run beside entries that are kept in another way
abbrev pub run_grouped : Run → Grouping → Run
run_grouped r g =
    record {
      around = record { axis = r.around.axis; explicit = r.around.explicit; areas = r.around.areas; grouping = g };
      first = r.first;
      count = r.count;
      in_range = r.in_range;
    }

-- how entries are kept for so many placements: which of these it is changes no answer, only how long one takes
unfoldable pub grouping_for : ℕ → ℕ → Grouping
grouping_for entries count =
    cond (leb entries (256 / (count + 1))) Whole
    (cond (leb entries 128) Few
    (cond (leb entries 4096) Many Whole))

-- so many entries are kept in groups, with so many keys lent, and fit an index of so many words
pub record GroupsFit (g : Grouping) (entries keys words : ℕ) : Type 0 where
  pub parted : g ≡ Whole → ⊥
  pub fit : index_fits g entries keys words ≡ true

-- the placements of an axis in a run, its entries kept together
pub record IsRunOf (axis : Axis) (explicit areas from n : ℕ) (run : Run) : Type 0 where
  pub around : run.around ≡ whole_around axis explicit areas
  pub first : run.first ≡ from
  pub count : run.count ≡ n

-- a run of one placement of the axis answers it
abbrev pub OnlyOne : Run → List ℕ → (WrittenLine → Resolution) → Resolution → Type 0
OnlyOne run placements resolve r =
    run.count ≡ 1 → on_axis run.around.axis placements run.first ≡ true → r ≡ resolve (line_placement (placement_at placements run.first))
