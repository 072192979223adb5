-- A run beside the index of the entries is the run beside the entries. Assumes nothing.
use mathlib.Core.Path.{◌≡◌, refl, sym, ap, ◌∙◌}
use mathlib.Core.Bool.{Bool, true, false, cond}
use mathlib.Core.List.{List}
use Prim.Native.Nat.{ℕ, ◌+◌, ◌/◌, ◌≤◌}
use native.Mathlib.Omega.{arith}
use borrow.Author.Tests.{le-leb, leb-true}
use lib.Dec.{leb}
use lib.IntN.{ℤ}
use Rattle.name_lines.specs.Areas.{axis_names}
use Rattle.name_groups.specs.Keys.{key_count}
use Rattle.name_groups.specs.Groups.{Grouped}
use Rattle.name_groups.specs.declared.key.Grouping.{Grouping}
use Rattle.name_groups.specs.declared.key.Grouping.TheVariants.{Whole, Few, Many}
use Rattle.name_resolver.specs.Types.{WrittenLine}
use Rattle.name_resolver.specs.Placements.{Resolution}
use Rattle.name_resolver.specs.Placements.{resolution_of}
use Rattle.axis_tables.specs.Runs.{part_of}
use Rattle.panel_resolving.specs.declared.axis_run.Run.{Run}
use Rattle.panel_resolving.specs.Names.{bears_by, resolution_by}
use Rattle.panel_resolving.specs.Chosen.{GroupsFit, chosen_sets, on_axis, numbers_by, run_grouped, grouping_for}
use Rattle.panel_resolving.proofs.Grouping.{grouped-resolving}

-- groups are not all together
few-parted : Few ≡ Whole → ⊥
few-parted e = let z : ◌≡◌ {A = ℕ} 128 0 = ap key_count e in omega arith

many-parted : Many ≡ Whole → ⊥
many-parted e = let z : ◌≡◌ {A = ℕ} 1024 0 = ap key_count e in omega arith

-- the entries fit their index
few_fit : (n : ℕ) → n ≤ 128 → GroupsFit Few n 128 256
few_fit n h = record { parted = few-parted; fit = rw (le-leb n 4096 (omega arith), le-leb n 128 h, le-leb (128 + n) 256 (omega arith)) }

many_fit : (n : ℕ) → n ≤ 4096 → GroupsFit Many n 4096 5120
many_fit n h = record { parted = many-parted; fit = rw (le-leb n 4096 h, le-leb (1024 + n) 5120 (omega arith)) }

-- how many there are where they are kept in groups
module _ (n count : ℕ) where
  pub few-entries : (g : Grouping) → g ≡ grouping_for n count → g ≡ Few → GroupsFit Few n 128 256
  unfolding grouping_for
  few-entries g e f = few_fit n (go (leb n (256 / (count + 1))) (leb n 128) (leb n 4096) refl (sym e ∙ f))
    where
      go : (a b d : Bool) → leb n 128 ≡ b → cond a Whole (cond b Few (cond d Many Whole)) ≡ Few → n ≤ 128
      go true b d q h = absurd (few-parted (sym h))
      go false true d q h = leb-true n 128 q
      go false false true q h = let z : ◌≡◌ {A = ℕ} 1024 128 = ap key_count h in absurd (omega arith)
      go false false false q h = absurd (few-parted (sym h))

  pub many-entries : (g : Grouping) → g ≡ grouping_for n count → g ≡ Many → GroupsFit Many n 4096 5120
  unfolding grouping_for
  many-entries g e f = many_fit n (go (leb n (256 / (count + 1))) (leb n 128) (leb n 4096) refl (sym e ∙ f))
    where
      go : (a b d : Bool) → leb n 4096 ≡ d → cond a Whole (cond b Few (cond d Many Whole)) ≡ Many → n ≤ 4096
      go true b d q h = absurd (many-parted (sym h))
      go false true d q h = let z : ◌≡◌ {A = ℕ} 128 1024 = ap key_count h in absurd (omega arith)
      go false false true q h = leb-true n 4096 q
      go false false false q h = absurd (many-parted (sym h))

-- the numbers that a run beside an index leaves
pub grouped_run : (run grouped : Run) (g : Grouping) → grouped ≡ run_grouped run g → (entries index store areas areabytes placements names : List ℕ) → Grouped g entries store index → (lent after : List ℤ)
    → after ≡ chosen_sets (on_axis grouped.around.axis placements)
    (numbers_by (resolution_by grouped.around.explicit (bears_by grouped.around index store areas areabytes) names) placements) 0 grouped.first grouped.count lent
    → after ≡ chosen_sets (on_axis run.around.axis placements)
    (numbers_by (resolution_of (axis_names run.around.explicit run.around.axis entries store (part_of areas 0 run.around.areas) (part_of areas 64 run.around.areas) areabytes) names) placements)
    0 run.first run.count lent
grouped_run run grouped g e entries index store areas areabytes placements names h lent after f =
    (rw e at f) ∙ ap (λ (r : WrittenLine → Resolution). chosen_sets (on_axis run.around.axis placements) (numbers_by r placements) 0 run.first run.count lent)
    (grouped-resolving (run_grouped run g).around entries store index areas areabytes h names)
