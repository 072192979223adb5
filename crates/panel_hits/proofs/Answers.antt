-- What the two calls answer, from what they find on the way. Assumes nothing.
use Prim.Native.Nat.{ℕ, ◌≤◌}
use mathlib.Core.Path.{◌≡◌, refl, sym, ap, ap₂, ◌∙◌}
use mathlib.Core.Bool.{Bool, true, false, cond}
use mathlib.Core.List.{List}
use native.Mathlib.Omega.{arith}
use borrow.Author.Tests.{eq-eqb, ne_eqb, eqb-true, eqb-false, ltb-false}
use lib.Dec.{eqb, ltb}
use Rattle.std.specs.Prelude.{Result, Ok, Err}
use Rattle.coordinates.specs.declared.refusal.Fault.{Fault}
use Rattle.coordinates.specs.Refusals.{number_of, refused_by, short}
use Rattle.coordinates.proofs.Faults.{fault_some}
use Rattle.panel_positions.specs.declared.Between.{Between}
use Rattle.panel_tables.specs.declared.Grid.{Grid}
use Rattle.panel_rules.specs.Calls.{shorter_store}
use Rattle.panel_positions.specs.Cursor.{lines_within}
use Rattle.panel_positions.specs.Cursor.{answered_between}
use Rattle.placement_hits.specs.Steps.{Listed, listed_of, place_of}
use Rattle.std.specs.Prelude.{Option}
use Rattle.placement_hits.specs.declared.Question.TheVariants.{Within, Around as AroundPlace}
use Rattle.panel_hits.specs.declared.AxisSpan.{AxisSpan}
use Rattle.panel_hits.specs.declared.Around.{Around}
use Rattle.panel_hits.specs.Settled.{Lent, counts_in, settled_hits}
use Rattle.panel_hits.specs.Lists.{answered_hits, lower, checked_of, store_refusal, line_refusal, hits_for, older_of, placements_within, placements_around}

-- ---- refusals

-- what is passed isn't refused
never_ok : {A : Type 0} {C : Type 0} {f : Fault} {x : A} → ◌≡◌ {A = Result A Fault} (Err f) (Ok x) → C
never_ok {f = f} e = absurd (fault_some f (ap refused_by e))

-- nothing is refused where neither is
pub lower-none : (a b : ℕ) → lower a b ≡ 0 → (a ≡ 0) × (b ≡ 0)
lower-none a b e = go (eqb a 0) (eqb b 0) (ltb a b) refl refl e
  where
    go : (x y z : Bool) → eqb a 0 ≡ x → eqb b 0 ≡ y → cond x b (cond y a (cond z a b)) ≡ 0 → (a ≡ 0) × (b ≡ 0)
    go true y z p q e = (eqb-true a 0 p, e)
    go false true z p q e = absurd (eqb-false a 0 p e)
    go false false true p q e = absurd (eqb-false a 0 p e)
    go false false false p q e = absurd (eqb-false b 0 q e)

pub stores_long : (shorter : ℕ) → store_refusal shorter ≡ 0 → 32768 ≤ shorter
stores_long shorter e = go (ltb shorter 32768) refl e
  where
    go : (t : Bool) → ltb shorter 32768 ≡ t → cond t short 0 ≡ 0 → 32768 ≤ shorter
    go true p e = absurd (omega (arith, e))
    go false p e = ltb-false shorter 32768 p

-- the lower of two faults has the lower number
module _ {A B : Type 0} where
  pub checked-number : (a : Result A Fault) (b : Result B Fault) → refused_by (checked_of a b) ≡ lower (refused_by a) (refused_by b)
  checked-number (Ok x) (Ok y) = refl
  checked-number (Ok x) (Err f) = refl
  checked-number (Err f) (Ok y) = rw (ne_eqb (number_of f) 0 (fault_some f))
  checked-number (Err f) (Err g) = rw (ne_eqb (number_of f) 0 (fault_some f), ne_eqb (number_of g) 0 (fault_some g)) (by (ltb (number_of f) (number_of g)))
    where
      by : (t : Bool) → number_of (cond t f g) ≡ cond t (number_of f) (number_of g)
      by true = refl
      by false = refl

  -- what passes was found
  pub checked-found : (a : Result A Fault) (b : Result B Fault) (x : A) → checked_of a b ≡ Ok x → a ≡ Ok x
  checked-found (Ok y) (Ok z) x e = e
  checked-found (Ok y) (Err f) x e = never_ok e
  checked-found (Err f) (Ok z) x e = e
  checked-found (Err f) (Err g) x e = never_ok e

-- ---- an answer

refused_hits : (fault : Fault) (number : ℕ) (list hits : List ℕ) → number_of fault ≡ number → record { answer = answered_hits (Err fault); hits = hits } ≡ hits_for number list hits
refused_hits fault number list hits e = rw (← e, ne_eqb (number_of fault) 0 (fault_some fault))

listed_hits_lem : (number : ℕ) (list hits after : List ℕ) (n : ℕ) → number ≡ 0 → record { count = n; hits = after } ≡ listed_of list hits
    → record { answer = answered_hits (Ok n); hits = after } ≡ hits_for number list hits
listed_hits_lem number list hits after n z e = rw (eq-eqb number 0 z) (ap (λ (x : Listed). record { answer = record { number = 0; count = x.count }; hits = x.hits }) e)

-- the lines that are found, or the number of what refuses them
between-number : (r : Result Between Fault) → (answered_between r).number ≡ refused_by r
between-number (Ok b) = refl
between-number (Err f) = refl

module _ {B : Type 0} (g : Grid) (words : List ℕ) (l : Lent) (items hits : List ℕ) (lines : Result Between Fault) (stores : Result B Fault) (stores_told : refused_by stores ≡ store_refusal (shorter_store l.names)) where
  older : refused_by (checked_of lines stores) ≡ older_of (answered_between lines) l.names
  older = checked-number lines stores ∙ ap₂ lower (sym (between-number lines)) stores_told

  -- the stores are long enough where nothing is refused
  pub within_long : (b : Between) → checked_of lines stores ≡ Ok b → 32768 ≤ shorter_store l.names
  within_long b e =
      let both = lower-none (refused_by lines) (refused_by stores) (sym (checked-number lines stores) ∙ ap refused_by e) in
      stores_long (shorter_store l.names) (sym stores_told ∙ both.1)

  module _ (s : AxisSpan) (asked : answered_between lines ≡ lines_within g words s.axis items s.bits.low s.bits.high) where
    pub within-refused : (fault : Fault) → checked_of lines stores ≡ Err fault → record { answer = answered_hits (Err fault); hits = hits } ≡ placements_within g words l items s hits
    unfolding placements_within
    within-refused fault e =
        rw (← asked) (refused_hits fault (older_of (answered_between lines) l.names) (settled_hits g l s.axis (Within (answered_between lines).below (answered_between lines).upto)) hits
        (ap refused_by (sym e) ∙ older))

    pub within-listed : (b : Between) → checked_of lines stores ≡ Ok b → (n : ℕ) (after : List ℕ)
        → record { count = n; hits = after } ≡ listed_of (settled_hits g l s.axis (Within b.below b.upto)) hits
        → record { answer = answered_hits (Ok n); hits = after } ≡ placements_within g words l items s hits
    unfolding placements_within
    within-listed b e n after h =
        let f = checked-found lines stores b e in
        rw (← asked) (listed_hits_lem (older_of (answered_between lines) l.names) (settled_hits g l s.axis (Within (answered_between lines).below (answered_between lines).upto)) hits after n
        (sym older ∙ ap refused_by e) (h ∙ ap (λ (r : Result Between Fault). listed_of (settled_hits g l s.axis (Within (answered_between r).below (answered_between r).upto)) hits) (sym f)))

  module _ {D : Type 0} (s : Around) (asked : answered_between lines ≡ lines_within g words s.axis items 0 0) (line : Result D Fault) (line_told : refused_by line ≡ line_refusal s.line) where
    all_refusals : refused_by (checked_of (checked_of lines stores) line) ≡ lower (older_of (answered_between lines) l.names) (line_refusal s.line)
    all_refusals = checked-number (checked_of lines stores) line ∙ ap₂ lower older line_told

    pub around-refused : (fault : Fault) → checked_of (checked_of lines stores) line ≡ Err fault → record { answer = answered_hits (Err fault); hits = hits } ≡ placements_around g words l items s hits
    unfolding placements_around
    around-refused fault e =
        rw (← asked) (refused_hits fault (lower (older_of (answered_between lines) l.names) (line_refusal s.line)) (settled_hits g l s.axis (AroundPlace (place_of (counts_in g s.axis) s.line))) hits
        (ap refused_by (sym e) ∙ all_refusals))

    pub around-listed : (b : Between) → checked_of (checked_of lines stores) line ≡ Ok b → (place : Option ℕ) (n : ℕ) (after : List ℕ) → place ≡ place_of (counts_in g s.axis) s.line
        → record { count = n; hits = after } ≡ listed_of (settled_hits g l s.axis (AroundPlace place)) hits
        → record { answer = answered_hits (Ok n); hits = after } ≡ placements_around g words l items s hits
    unfolding placements_around
    around-listed b e place n after p h =
        rw (← asked) (listed_hits_lem (lower (older_of (answered_between lines) l.names) (line_refusal s.line)) (settled_hits g l s.axis (AroundPlace (place_of (counts_in g s.axis) s.line))) hits after n
        (sym all_refusals ∙ ap refused_by e) (rw p at h))

    pub around-long : (b : Between) → checked_of (checked_of lines stores) line ≡ Ok b → 32768 ≤ shorter_store l.names
    around-long b e = within_long b (checked-found (checked_of lines stores) line b e)
