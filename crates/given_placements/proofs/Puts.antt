-- Placements by argument stand in their tables as `place` lines of an empty panel do. Assumes nothing.
use Prim.Native.Nat.{ℕ, suc, ◌+◌, ◌≤◌, ◌<◌}
use mathlib.Core.Path.{◌≡◌, refl, sym, ap, ◌∙◌}
use mathlib.Core.Bool.{Bool, true, false}
use mathlib.Core.List.{List, [], ◌∷◌, ◌++◌, append_assoc, append-nil}
use native.Mathlib.Omega.{arith}
use borrow.Author.Tests.{eqb-true, eqb-false, eq-eqb, ne_eqb, lt-leb}
use lib.Dec.{eqb}
use lib.ListN.{length, replicate, length-append}
use Rattle.name_rules.specs.Css.{Bytes}
use Rattle.axis_tables.proofs.Runs.{All, all_append}
use Rattle.axis_tables.proofs.Regions.{zeros_part}
use Rattle.panel_tables.specs.declared.Panel.{Panel}
use Rattle.panel_tables.specs.View.{Placement, PanelView, empty_view, accepted, items, limited_step, with_item, place_step}
use Rattle.panel_tables.specs.Areas.{InAreas, put}
use Rattle.panel_tables.specs.Placements.{put_placement}
use Rattle.panel_tables.specs.Regions.{panel_words, panel_bytes, placement_words_in, placement_bytes_in}
use Rattle.panel_tables.specs.Written.{zero_panel, placement_words, placement_store, panel_of, PanelHeld, PanelStepped, panel_held_of, held_panel, stepped, of_placements}
use Rattle.panel_tables.proofs.Fits.{GoodPlacement, FitsPanel, ends_none, empty_fits_panel}
use Rattle.panel_tables.proofs.Same.{place_same, zeros_same}
use Rattle.given_placements.specs.declared.GivenPlacement.{GivenPlacement}
use Rattle.given_placements.specs.Given.{fault_given, names_after, put_given, GivenTables, put_from, put_all, GivenAnswer}
use Rattle.given_placements.specs.Theorem.{placement_given, placements_given, first_refused}
use Rattle.given_placements.proofs.Ends.{placement-good}

-- a panel with nothing but placements
abbrev pub placed : List Placement → PanelView
placed ps = with_item empty_view ps []

placed-fits : (ps : List Placement) → All GoodPlacement ps → length ps ≤ 256 → FitsPanel (placed ps)
unfolding empty_view
placed-fits ps good few =
    let f = empty_fits_panel in
    record { columns = f.columns; rows = f.rows; areas = f.areas; drawn = f.drawn; items = omega arith; cells = omega arith; placed = good; lines = tt }

-- what is put, from its parts
areas-made : (x : InAreas) (n : ℕ) (p : Panel) (w b : List ℕ) → x.answer.fault ≡ n → x.answer.panel ≡ p → x.words ≡ w → x.bytes ≡ b → x ≡ record { answer = put n p; words = w; bytes = b }
areas-made x n p w b e f g h = rw (← e, ← f, ← g, ← h) refl

-- what stands in the tables of placements
abbrev pub standing : List Placement → InAreas
standing ps = record { answer = put 0 (panel_of (placed ps)); words = placement_words ps []; bytes = placement_store ps }

-- ---- one more
module _ (ps : List Placement) (good : All GoodPlacement ps) (few : length ps < 256) (p : Placement) (fine : GoodPlacement p) (whole : p.cell ≡ false) where
  step-accepted : place_step (placed ps) p.axis p.start p.end ≡ accepted (placed (ps ++ (p ∷ [])))
  unfolding place_step limited_step empty_view
  step-accepted =
      rw (ends_none p.start p.end fine.start fine.end, lt-leb 256 (items (placed ps)) (omega arith)) (ap (λ (c : Bool). accepted (placed (ps ++ (record { axis = p.axis; cell = c; start = p.start; end = p.end } ∷ [])))) (sym whole))

  abbrev after : InAreas
  after = put_placement (panel_of (placed ps)) (placement_words ps []) (placement_store ps) p.axis p.start p.end

  follows : of_placements (held_panel (placed ps)) after ≡ stepped (accepted (placed (ps ++ (p ∷ []))))
  follows = place_same (placed ps) (placed-fits ps good (omega arith)) p.axis p.start p.end ∙ ap stepped step-accepted

  pub put-one : after ≡ standing (ps ++ (p ∷ []))
  unfolding held_panel
  put-one =
      areas-made after 0 (panel_of (placed (ps ++ (p ∷ [])))) (placement_words (ps ++ (p ∷ [])) []) (placement_store (ps ++ (p ∷ [])))
      (ap (λ (x : PanelStepped). x.fault) follows)
      (ap (λ (x : PanelStepped). x.held.panel) follows)
      (ap (λ (x : PanelStepped). x.held.placements) follows)
      (ap (λ (x : PanelStepped). x.held.placement_bytes) follows)

-- ---- all of them

-- those that are left after some that stand
abbrev pub put_rest : List Placement → Bytes → ℕ → List GivenPlacement → GivenTables
put_rest ps names i gs = put_from (panel_of (placed ps)) (placement_words ps []) (placement_store ps) names i gs

module _ (ps : List Placement) (good : All GoodPlacement ps) (g : GivenPlacement) (names : Bytes) (i : ℕ) (gs : List GivenPlacement) where
  abbrev p : Placement
  p = placement_given g names

  rest-next : fault_given g names ≡ 0 → length ps < 256 → put_rest ps names i (g ∷ gs) ≡ put_rest (ps ++ (p ∷ [])) (names_after g names) (suc i) gs
  unfolding put_from put_given
  rest-next z few = rw (eq-eqb (fault_given g names) 0 z, put-one ps good few p (placement-good g names z).0 refl)

  rest-refused : (fault_given g names ≡ 0 → ⊥)
      → put_rest ps names i (g ∷ gs) ≡ record { number = fault_given g names; index = i; placements = 0; words = placement_words ps []; bytes = placement_store ps }
  unfolding put_from put_given
  rest-refused z = rw (ne_eqb (fault_given g names) 0 z, ne_eqb (fault_given g names) 0 z)

  more-good : fault_given g names ≡ 0 → All GoodPlacement (ps ++ (p ∷ []))
  more-good z = all_append GoodPlacement ps (p ∷ []) good ((placement-good g names z).0, tt)

  more-few : length ps + length (g ∷ gs) ≤ 256 → length (ps ++ (p ∷ [])) + length gs ≤ 256
  more-few h = omega (arith, length-append ps (p ∷ []))

-- a first one that is not refused leaves the refusals of the others
module _ (g : GivenPlacement) (names : Bytes) (i : ℕ) (gs : List GivenPlacement) where
  first-passed : fault_given g names ≡ 0 → first_refused names i (g ∷ gs) ≡ first_refused (names_after g names) (suc i) gs
  unfolding first_refused
  first-passed z = rw (eq-eqb (fault_given g names) 0 z)

  first-here : (fault_given g names ≡ 0 → ⊥) → first_refused names i (g ∷ gs) ≡ record { number = fault_given g names; index = i; count = 0 }
  unfolding first_refused
  first-here z = rw (ne_eqb (fault_given g names) 0 z)

-- none is refused: they all stand
pub rest-placed : (gs : List GivenPlacement) (ps : List Placement) (names : Bytes) (i : ℕ) → All GoodPlacement ps → length ps + length gs ≤ 256 → (first_refused names i gs).number ≡ 0
    → put_rest ps names i gs
    ≡ record { number = 0; index = 0; placements = length (ps ++ placements_given names gs); words = placement_words (ps ++ placements_given names gs) []; bytes = placement_store (ps ++ placements_given names gs) }
unfolding put_from placements_given
rest-placed [] ps names i good few z = rw (append-nil ps) refl
rest-placed (g ∷ gs) ps names i good few z =
    go (eqb (fault_given g names) 0) refl
    (λ n. rest-placed gs (ps ++ (placement_given g names ∷ [])) (names_after g names) (suc i) (more-good ps good g names i gs n) (more-few ps good g names i gs few)
    (sym (ap (λ (x : GivenAnswer). x.number) (first-passed g names i gs n)) ∙ z))
  where
    all : List Placement
    all = ps ++ (placement_given g names ∷ placements_given (names_after g names) gs)

    then_all : List Placement
    then_all = (ps ++ (placement_given g names ∷ [])) ++ placements_given (names_after g names) gs

    held : List Placement → GivenTables
    held qs = record { number = 0; index = 0; placements = length qs; words = placement_words qs []; bytes = placement_store qs }

    go : (b : Bool) → eqb (fault_given g names) 0 ≡ b
        → (fault_given g names ≡ 0 → put_rest (ps ++ (placement_given g names ∷ [])) (names_after g names) (suc i) gs ≡ held then_all)
        → put_rest ps names i (g ∷ gs) ≡ held all
    go true e next =
        let n = eqb-true (fault_given g names) 0 e in
        rest-next ps good g names i gs n (omega arith) ∙ next n ∙ ap held (append_assoc ps (placement_given g names ∷ []) (placements_given (names_after g names) gs))
    go false e next =
        let n = eqb-false (fault_given g names) 0 e in
        absurd (n (sym (ap (λ (x : GivenAnswer). x.number) (first-here g names i gs n)) ∙ z))

-- one is refused: the first of them
pub rest-refused-first : (gs : List GivenPlacement) (ps : List Placement) (names : Bytes) (i : ℕ) → All GoodPlacement ps → length ps + length gs ≤ 256
    → ((first_refused names i gs).number ≡ 0 → ⊥)
    → record { number = (put_rest ps names i gs).number; index = (put_rest ps names i gs).index; count = 0 } ≡ first_refused names i gs
unfolding first_refused
rest-refused-first [] ps names i good few z = absurd (z refl)
rest-refused-first (g ∷ gs) ps names i good few z =
    go (eqb (fault_given g names) 0) refl
    (λ n. rest-refused-first gs (ps ++ (placement_given g names ∷ [])) (names_after g names) (suc i) (more-good ps good g names i gs n) (more-few ps good g names i gs few)
    (λ k. z (ap (λ (x : GivenAnswer). x.number) (first-passed g names i gs n) ∙ k)))
  where
    told : GivenTables → GivenAnswer
    told x = record { number = x.number; index = x.index; count = 0 }

    go : (b : Bool) → eqb (fault_given g names) 0 ≡ b
        → (fault_given g names ≡ 0 → told (put_rest (ps ++ (placement_given g names ∷ [])) (names_after g names) (suc i) gs) ≡ first_refused (names_after g names) (suc i) gs)
        → told (put_rest ps names i (g ∷ gs)) ≡ first_refused names i (g ∷ gs)
    go true e next =
        let n = eqb-true (fault_given g names) 0 e in
        ap told (rest-next ps good g names i gs n (omega arith)) ∙ next n ∙ sym (first-passed g names i gs n)
    go false e next =
        let n = eqb-false (fault_given g names) 0 e in
        ap told (rest-refused ps good g names i gs n) ∙ sym (first-here g names i gs n)

-- ---- from tables of zeros

start-panel : zero_panel ≡ panel_of (placed [])
unfolding held_panel panel_held_of empty_view
start-panel = sym (ap (λ (h : PanelHeld). h.panel) zeros_same)

start-words : replicate 1280 0 ≡ placement_words [] []
unfolding held_panel panel_held_of empty_view placement_words_in
start-words = sym (ap (λ (h : PanelHeld). h.placements) zeros_same ∙ zeros_part panel_words 25088 1280 (omega arith))

start-bytes : replicate 32768 0 ≡ placement_store []
unfolding held_panel panel_held_of empty_view placement_bytes_in
start-bytes = sym (ap (λ (h : PanelHeld). h.placement_bytes) zeros_same ∙ zeros_part panel_bytes 62048 32768 (omega arith))

put_same : (names : Bytes) (gs : List GivenPlacement) (p q : Panel) (w x b y : List ℕ) → p ≡ q → w ≡ x → b ≡ y → put_from p w b names 0 gs ≡ put_from q x y names 0 gs
put_same names gs p q w x b y e f g = rw (e, f, g) refl

pub put-started : (names : Bytes) (gs : List GivenPlacement) → put_all names gs ≡ put_rest [] names 0 gs
unfolding put_all
put-started names gs =
    put_same names gs zero_panel (panel_of (placed [])) (replicate 1280 0) (placement_words [] []) (replicate 32768 0) (placement_store []) start-panel start-words start-bytes
