-- What is held after accepted edits, in closed form: the view of their lines with their direct entries on either axis. Assumes nothing.
use Prim.Native.Nat.{ℕ, ◌+◌}
use mathlib.Core.Path.{◌≡◌, refl, ap, ◌∙◌}
use mathlib.Core.List.{List, [], ◌∷◌, append-nil}
use mathlib.Core.Bool.{Bool, true, false, cond, ◌&&◌}
use native.Mathlib.Nat.{add-zero}
use lib.Dec.{eqb}
use lib.ListN.{length}
use borrow.Author.Tests.{eqb-true, eqb-false}
use Rattle.coordinates.specs.declared.axis.Axis.{Axis}
use Rattle.coordinates.specs.declared.axis.Axis.TheVariants.{Column, Row}
use Rattle.name_rules.specs.Css.{Bytes, Entry}
use Rattle.axis_tables.specs.View.{axis_bytes}
use Rattle.panel_tables.specs.View.{PanelView}
use Rattle.panel_tables.specs.Axes.{view_in}
use Rattle.panel_tables.proofs.Axes.{axis_in_fits}
use Rattle.panel_tables.proofs.Fits.{FitsPanel}
use Rattle.sheet_rules.specs.Sheet.{end_fault}
use Rattle.sheet_rules.specs.Panels.{Tables, entry_words}
use Rattle.sheet_rules.specs.Read.{short_stores}
use Rattle.panel_rules.specs.Runs.{Call}
use Rattle.panel_rules.specs.Views.{held_after}
use Rattle.panel_rules.specs.Book.{same_axis, table_refusal, added_from}
use Rattle.panel_rules.proofs.Fit.{EntriesFit}
use Rattle.panel_rules.proofs.Ends.{no_fault, few_words}
use Rattle.panel_rules.proofs.Held.{calls-held}
use Rattle.edit_rules.specs.Edits.{Edit}
use Rattle.edit_rules.specs.Replay.{edited_by}
use Rattle.edit_rules.specs.Settled.{calls_of, entered_on, more_on, calls_fault, enters_fault, or_else, view_by, edits_fault, edits_held}
use Rattle.edit_rules.proofs.Fits.{edits_fit}

-- ---- calls of which the table refuses none add all their entries

module _ (line : ℕ) (name : Bytes) (entries used : Axis → ℕ) (calls : List Call) where
  one_more_lem : (a b : Axis) → eqb (table_refusal (entries b) (used b) line name) 0 ≡ true
      → added_from (more_on b 1 entries a) (more_on b (length name) used a) a calls ≡ entered_on a calls
      → cond (same_axis a b && eqb (table_refusal (entries a) (used a) line name) 0)
      (record { line = line; name = name } ∷ added_from (entries a + 1) (used a + length name) a calls)
      (added_from (entries a) (used a) a calls)
      ≡ cond (same_axis a b) (record { line = line; name = name } ∷ entered_on a calls) (entered_on a calls)
  one_more_lem Column Column e i = rw e (ap (λ (l : List Entry). record { line = line; name = name } ∷ l) i)
  one_more_lem Column Row e i = i
  one_more_lem Row Column e i = i
  one_more_lem Row Row e i = rw e (ap (λ (l : List Entry). record { line = line; name = name } ∷ l) i)

pub all-added : (entries used : Axis → ℕ) (calls : List Call) → calls_fault entries used calls ≡ 0 → (a : Axis) → added_from (entries a) (used a) a calls ≡ entered_on a calls
unfolding calls_fault entered_on added_from
all-added entries used [] z a = refl
all-added entries used (c ∷ calls) z a =
    go (eqb (table_refusal (entries c.axis) (used c.axis) c.line c.name) 0) refl
    (all-added (more_on c.axis 1 entries) (more_on c.axis (length c.name) used) calls) z
  where
    go : (t : Bool) → eqb (table_refusal (entries c.axis) (used c.axis) c.line c.name) 0 ≡ t
        → (calls_fault (more_on c.axis 1 entries) (more_on c.axis (length c.name) used) calls ≡ 0
        → (b : Axis) → added_from (more_on c.axis 1 entries b) (more_on c.axis (length c.name) used b) b calls ≡ entered_on b calls)
        → cond t (calls_fault (more_on c.axis 1 entries) (more_on c.axis (length c.name) used) calls)
        (table_refusal (entries c.axis) (used c.axis) c.line c.name) ≡ 0
        → added_from (entries a) (used a) a (c ∷ calls) ≡ entered_on a (c ∷ calls)
    go true e i q = one_more_lem c.line c.name entries used calls a c.axis e (i q a)
    go false e i q = absurd (eqb-false (table_refusal (entries c.axis) (used c.axis) c.line c.name) 0 e q)

-- ---- the end

-- of two faults one after the other, where the whole is none
pub or-none : (n m : ℕ) → or_else n m ≡ 0 → (n ≡ 0) × (m ≡ 0)
or-none n m = go (eqb n 0) refl
  where
    go : (t : Bool) → eqb n 0 ≡ t → cond t m n ≡ 0 → (n ≡ 0) × (m ≡ 0)
    go true e z = (eqb-true n 0 e, z)
    go false e z = absurd (eqb-false n 0 e z)

-- accepted edits: no line, no end and no entry is refused
pub record AllAccepted (v : PanelView) (edits : List Edit) : Type 0 where
  pub lines : (edited_by v edits).fault ≡ 0
  pub end : end_fault (view_by v edits) ≡ 0
  pub entries : enters_fault (view_by v edits) (calls_of edits) ≡ 0

pub all-accepted : (v : PanelView) (edits : List Edit) → edits_fault v edits ≡ 0 → AllAccepted v edits
unfolding edits_fault
all-accepted v edits z =
    let a = or-none (edited_by v edits).fault (or_else (end_fault (view_by v edits)) (enters_fault (view_by v edits) (calls_of edits))) z in
    let b = or-none (end_fault (view_by v edits)) (enters_fault (view_by v edits) (calls_of edits)) a.1 in
    record { lines = a.0; end = b.0; entries = b.1 }

pub no_entries_fit : (v : PanelView) → FitsPanel v → end_fault v ≡ 0 → (a : Axis) → EntriesFit (view_in v a) []
no_entries_fit v f e a =
    record {
      few = rw (add-zero (length (entry_words (view_in v a)))) (few_words (view_in v a) (axis_in_fits v a f) (no_fault v e a));
      bytes = rw (append-nil (axis_bytes (view_in v a))) (axis_in_fits v a f).bytes;
      range = tt;
    }

pub edit_held : (v : PanelView) (t : Tables) (edits : List Edit) → FitsPanel v → short_stores t ≡ false → edits_fault v edits ≡ 0
    → edits_held v t edits ≡ held_after (view_by v edits) t (entered_on Column (calls_of edits)) (entered_on Row (calls_of edits))
unfolding edits_held
edit_held v t edits f long z =
    let k = all-accepted v edits z in
    let w = view_by v edits in
    let g = edits_fit v f edits in
    let on = all-added (λ a. length (entry_words (view_in w a))) (λ a. length (axis_bytes (view_in w a))) (calls_of edits) k.entries in
    calls-held w t long [] [] (calls_of edits) (no_entries_fit w g k.end Column) (no_entries_fit w g k.end Row)
    ∙ rw (
      add-zero (length (entry_words w.columns)),
      append-nil (axis_bytes w.columns),
      add-zero (length (entry_words w.rows)),
      append-nil (axis_bytes w.rows),
      on Column,
      on Row,
    )
