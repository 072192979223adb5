-- The answer for a placement. Assumes nothing.
use Prim.Native.Nat.{ℕ, ◌<◌}
use mathlib.Core.Path.{◌≡◌, refl, sym, ap, ◌∙◌}
use mathlib.Core.Bool.{Bool, true, false, cond}
use borrow.Author.Tests.{lt-ltb, eqb-false}
use lib.Dec.{eqb}
use Rattle.std.specs.Prelude.{Ok, Err}
use Rattle.coordinates.specs.declared.axis.Axis.{Axis}
use Rattle.coordinates.specs.declared.refusal.Fault.{Fault}
use native.Mathlib.Omega.{arith}
use Rattle.coordinates.specs.Refusals.{no_refusal, number_of, short}
use Rattle.coordinates.proofs.Faults.{fault_some}
use Rattle.panel_rules.specs.declared.PlacedLine.{PlacedLine}
use Rattle.name_resolver.specs.Types.{WrittenLine}
use Rattle.name_resolver.specs.Placements.{Resolution}
use Rattle.name_resolver.specs.Placements.{resolution_of}
use Rattle.panel_tables.specs.declared.Grid.{Grid}
use Rattle.panel_tables.specs.declared.PlacementPlace.{PlacementPlace}
use Rattle.panel_tables.specs.Placements.{placement_at}
use Rattle.panel_rules.specs.Calls.{NameTables, NamedWords, names_in, short_names}
use Rattle.panel_rules.specs.Placing.{PlacementAnswer, answered_placement, line_placement, placed_by, refused_placement, resolve_placement}

module _ (p : Grid) (t : NameTables) (areas placements : NamedWords) (index : ℕ) where
  -- the placement read, its ends, the resolver's answer and the stores' lengths make the answer
  pub placed : index < p.placements → (place : PlacementPlace) (line : WrittenLine) (r : Resolution) (is_short : Bool) (answer : PlacementAnswer) →
      place ≡ placement_at placements.words index → line ≡ line_placement place → r ≡ resolution_of (names_in p t areas place.axis) placements.bytes line →
      is_short ≡ short_names t → answer ≡ placed_by r place.axis place.cell is_short → answer ≡ resolve_placement p t areas placements index
  unfolding resolve_placement
  placed h place line r is_short answer at ends by stores is = rw (lt-ltb index p.placements h)
      (is ∙ ap (λ (x : Bool). placed_by r place.axis place.cell x) stores ∙ ap (λ (x : Resolution). placed_by x place.axis place.cell (short_names t)) by
      ∙ ap (λ (x : WrittenLine). placed_by (resolution_of (names_in p t areas place.axis) placements.bytes x) place.axis place.cell (short_names t)) ends
      ∙ ap (λ (x : PlacementPlace). placed_by (resolution_of (names_in p t areas x.axis) placements.bytes (line_placement x)) x.axis x.cell (short_names t)) at)

-- what the stores' lengths make of the answer for long ones
module _ (r : Resolution) (a : Axis) (cell : Bool) where
  abbrev placed_if : (s t : Bool) → PlacementAnswer
  placed_if s t = cond s (cond t (refused_placement short) (record { refusal = no_refusal; axis = a; cell = cell; line = r.line; held = r.held })) (refused_placement r.refusal.number)

  -- a refusal of the resolver comes before theirs
  pub refused-placed : (fault : Fault) (s : Bool) → answered_placement (Err fault) ≡ placed_by r a cell false → answered_placement (Err fault) ≡ placed_by r a cell s
  refused-placed fault s = go (eqb r.refusal.number 0)
    where
      go : (b : Bool) → answered_placement (Err fault) ≡ placed_if b false → answered_placement (Err fault) ≡ placed_if b s
      go true e = absurd (fault_some fault (ap (λ (x : PlacementAnswer). x.refusal.number) e))
      go false e = e

  -- a placement that was answered is refused by short ones
  pub short-placed : (x : PlacedLine) → answered_placement (Ok x) ≡ placed_by r a cell false → refused_placement short ≡ placed_by r a cell true
  short-placed x = go (eqb r.refusal.number 0) refl
    where
      go : (b : Bool) → eqb r.refusal.number 0 ≡ b → answered_placement (Ok x) ≡ placed_if b false → refused_placement short ≡ placed_if b true
      go true f e = refl
      go false f e = absurd (eqb-false r.refusal.number 0 f (sym (ap (λ (y : PlacementAnswer). y.refusal.number) e)))

-- what the check of the stores tells of them
pub short-told : (s : Bool) (fault : Fault) → number_of fault ≡ cond s short 0 → (true ≡ s) × (number_of fault ≡ short)
short-told true fault e = (refl, e)
short-told false fault e = absurd (fault_some fault e)

pub long-told : (s : Bool) → ◌≡◌ {A = ℕ} 0 (cond s short 0) → false ≡ s
long-told true e = absurd (omega (arith, e))
long-told false e = refl
