-- What the call on a panel answers and leaves, from what it computes. Assumes nothing.
use Rattle.std.specs.Prelude.{Ok, Err}
use Prim.Native.Nat.{ℕ, ◌+◌, ◌≤◌, ◌<◌}
use mathlib.Core.Path.{◌≡◌, refl, sym, ap, ap₂, ◌∙◌}
use mathlib.Core.Bool.{Bool, true, false, cond}
use mathlib.Core.List.{List, ◌++◌, append_assoc}
use native.Mathlib.Omega.{arith}
use borrow.Author.Tests.{eq-eqb, ne_eqb, eqb-true, le-ltb, lt-ltb}
use lib.Dec.{eqb, ltb}
use lib.ListN.{length, take, drop}
use lib.Seq.{sets, sets-eq, drop-drop}
use Rattle.coordinates.specs.declared.axis.Axis.{Axis}
use Rattle.coordinates.specs.declared.axis.Axis.TheVariants.{Column, Row}
use Rattle.coordinates.specs.declared.refusal.Fault.{Fault}
use Rattle.coordinates.specs.Refusals.{number_of, no_refusal, refusal_of, value, short}
use Rattle.coordinates.proofs.Faults.{fault_some}
use Rattle.sizing.specs.Ranges.{length_in_range}
use Rattle.axis_tables.specs.declared.AxisState.{AxisState}
use Rattle.axis_tables.specs.Runs.{with_part}
use Rattle.panel_tables.specs.declared.Panel.{Panel}
use Rattle.panel_tables.specs.Axes.{state_in, with_state}
use Rattle.panel_tables.specs.Regions.{panel_words, first_word, axis_words_in, area_words_in, placement_words_in}
use Rattle.panel_tables.proofs.Regions.{axis-lent, rows_stay, columns-stay, areas-stay, placements-stay}
use Rattle.sheet_end.specs.End.{EndedAxis, answered_end}
use Rattle.panel_rules.specs.Calls.{NameTables, name_tables_in, words_in, shorter_store, short_names}
use Rattle.panel_sizes.specs.Sizes.{state_at}
use Rattle.panel_resized.specs.Axes.{resized_axis}
use Rattle.panel_resized.specs.Resized.{resized_in, with_words, resize_refusal, resized_to, refused_resize, resized_panel}

-- ---- any tables
module _ (p : Panel) (t : NameTables) (a : Axis) (inner : ℕ) where
  -- bits that are no length in range are 3
  pub outside : length_in_range inner ≡ false → resize_refusal p t a inner ≡ value
  unfolding resize_refusal
  outside e = rw e

  -- else the axis is asked, and then the stores
  pub inside : length_in_range inner ≡ true → (n : ℕ) (k : Bool) → (resized_in p t a inner).answer.fault ≡ n → short_names t ≡ k
      → resize_refusal p t a inner ≡ cond (eqb n 0) (cond k short 0) n
  unfolding resize_refusal
  inside r n k e g =
      ap (λ (b : Bool). cond b (cond (eqb (resized_in p t a inner).answer.fault 0) (cond (short_names t) short 0) (resized_in p t a inner).answer.fault) value) r
      ∙ ap (λ (m : ℕ). cond (eqb m 0) (cond (short_names t) short 0) m) e
      ∙ ap (λ (b : Bool). cond (eqb n 0) (cond b short 0) n) g

  -- the call answers the number that refuses it
  pub refusal_is : (resized_panel p t a inner).answer.refusal ≡ refusal_of (resize_refusal p t a inner)
  unfolding resized_panel
  refusal_is = go (eqb (resize_refusal p t a inner) 0) refl
    where
      go : (b : Bool) → eqb (resize_refusal p t a inner) 0 ≡ b
          → (cond b (resized_to p t a (resized_in p t a inner)) (refused_resize p t (resize_refusal p t a inner))).answer.refusal ≡ refusal_of (resize_refusal p t a inner)
      go true e = ap refusal_of (sym (eqb-true (resize_refusal p t a inner) 0 e))
      go false e = refl

  pub refused : (n : ℕ) → (n ≡ 0 → ⊥) → resize_refusal p t a inner ≡ n → refused_resize p t n ≡ resized_panel p t a inner
  unfolding resized_panel
  refused n h e = rw (e, ne_eqb n 0 h)

  pub made : resize_refusal p t a inner ≡ 0 → resized_to p t a (resized_in p t a inner) ≡ resized_panel p t a inner
  unfolding resized_panel
  made e = rw (eq-eqb (resize_refusal p t a inner) 0 e)

-- ---- tables in the words of a panel, with the words of an axis written over them
module _ (w ws : List ℕ) (l : length w ≡ panel_words) (e : length ws ≡ 12480) where
  written-over : (a : Axis) → sets w (first_word a) ws ≡ with_part w (first_word a) 12480 ws
  written-over a =
      sets-eq ws w (first_word a) (room a)
      ∙ append_assoc (take (first_word a) w) ws (drop (first_word a + length ws) w)
      ∙ ap (λ (n : ℕ). take (first_word a) w ++ (ws ++ drop (first_word a + n) w)) e
      ∙ ap (λ (z : List ℕ). take (first_word a) w ++ (ws ++ z)) (sym (drop-drop 12480 (first_word a) w))
    where
      room : (b : Axis) → first_word b + length ws ≤ length w
      room Column = omega arith
      room Row = omega arith

  abbrev tables_with : List ℕ → List ℕ → List ℕ → List ℕ → NameTables
  tables_with column_store row_store columns rows = record { columns = columns; rows = rows; column_store = column_store; row_store = row_store }

  tables-over : (cs rs : List ℕ) (a : Axis) → name_tables_in (with_part w (first_word a) 12480 ws) cs rs ≡ with_words (name_tables_in w cs rs) a ws
  tables-over cs rs Column = ap₂ (tables_with cs rs) (axis-lent w ws l e Column) (rows_stay w ws l e)
  tables-over cs rs Row = ap₂ (tables_with cs rs) (columns-stay w ws l e) (axis-lent w ws l e Row)

  -- the areas and the placements stay
  pub others-stay : (a : Axis) → (area_words_in (sets w (first_word a) ws) ≡ area_words_in w) × (placement_words_in (sets w (first_word a) ws) ≡ placement_words_in w)
  others-stay a = (ap area_words_in (written-over a) ∙ areas-stay w ws l e a, ap placement_words_in (written-over a) ∙ placements-stay w ws l e a)

module _ (p : Panel) (w cs rs : List ℕ) (a : Axis) (inner : ℕ) where
  abbrev lent : NameTables
  lent = name_tables_in w cs rs

  own_words : (b : Axis) → axis_words_in b w ≡ words_in lent b
  own_words Column = refl
  own_words Row = refl

  pub out-of-range : length_in_range inner ≡ false → refused_resize p lent value ≡ resized_panel p lent a inner
  out-of-range e = refused p lent a inner value (λ z. omega (arith, z)) (outside p lent a inner e)

  -- what was answered for the axis
  module _ (ranged : length_in_range inner ≡ true) (s : AxisState) (own : List ℕ) (is-state : s ≡ state_in p a) (is-own : own ≡ axis_words_in a w) where
    asked : resized_axis s own inner ≡ resized_in p lent a inner
    asked = ap (λ (x : AxisState). resized_axis x own inner) is-state ∙ ap (λ (x : List ℕ). resized_axis (state_in p a) x inner) (is-own ∙ own_words a)

    pub axis-refused : (fault : Fault) (ws : List ℕ) → record { answer = answered_end (state_at s inner) (Err fault); words = ws } ≡ resized_axis s own inner
        → refused_resize p lent (number_of fault) ≡ resized_panel p lent a inner
    axis-refused fault ws g =
        let n : (resized_in p lent a inner).answer.fault ≡ number_of fault = sym (ap (λ (x : EndedAxis). x.answer.fault) (g ∙ asked)) in
        refused p lent a inner (number_of fault) (fault_some fault)
        (inside p lent a inner ranged (number_of fault) (short_names lent) n refl
        ∙ ap (λ (b : Bool). cond b (cond (short_names lent) short 0) (number_of fault)) (ne_eqb (number_of fault) 0 (fault_some fault)))

    module _ (after : AxisState) (ws : List ℕ) (g : record { answer = answered_end (state_at s inner) (Ok after); words = ws } ≡ resized_axis s own inner)
        (m : ℕ) (is-shorter : m ≡ shorter_store lent) where
      unrefused : (resized_in p lent a inner).answer.fault ≡ 0
      unrefused = sym (ap (λ (x : EndedAxis). x.answer.fault) (g ∙ asked))

      pub stores-short : m < 32768 → refused_resize p lent short ≡ resized_panel p lent a inner
      stores-short h =
          refused p lent a inner short (λ z. omega (arith, z))
          (inside p lent a inner ranged 0 true unrefused (ap (λ (n : ℕ). ltb n 32768) (sym is-shorter) ∙ lt-ltb m 32768 h))

      pub resized-panel : 32768 ≤ m → length w ≡ panel_words → length ws ≡ 12480
          → record { answer = record { refusal = no_refusal; panel = with_state p a after }; tables = name_tables_in (sets w (first_word a) ws) cs rs }
          ≡ resized_panel p lent a inner
      resized-panel h l e =
          ap (λ (x : NameTables). record { answer = record { refusal = no_refusal; panel = with_state p a after }; tables = x })
          (ap (λ (x : List ℕ). name_tables_in x cs rs) (written-over w ws l e a) ∙ tables-over w ws l e cs rs a)
          ∙ ap (resized_to p lent a) (g ∙ asked)
          ∙ made p lent a inner (inside p lent a inner ranged 0 false unrefused (ap (λ (n : ℕ). ltb n 32768) (sym is-shorter) ∙ le-ltb m 32768 h))
