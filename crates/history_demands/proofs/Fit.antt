-- The direct entries of accepted edits fit the tables and the stores, which keep their lengths. Assumes nothing.
use Prim.Native.Nat.{ℕ, ◌+◌, ◌≤◌}
use mathlib.Core.Path.{◌≡◌, refl, sym, ap, ◌∙◌, subst}
use mathlib.Core.List.{List, [], ◌∷◌, ◌++◌, append_assoc, append-nil}
use mathlib.Core.Bool.{Bool, true, false, cond, ◌||◌, false≢true}
use native.Mathlib.Nat.{add-zero}
use native.Mathlib.Omega.{arith}
use lib.Dec.{eqb, ltb}
use lib.ListN.{length}
use borrow.Author.Tests.{eqb-true, eqb-false, ltb-false}
use Rattle.coordinates.specs.declared.axis.Axis.{Axis}
use Rattle.coordinates.specs.declared.axis.Axis.TheVariants.{Column, Row}
use Rattle.name_rules.specs.Css.{Entry}
use Rattle.axis_tables.specs.View.{AxisView, axis_bytes}
use Rattle.panel_tables.specs.View.{PanelView}
use Rattle.panel_tables.specs.Axes.{view_in}
use Rattle.panel_tables.proofs.Fits.{FitsPanel}
use Rattle.sheet_rules.specs.Panels.{Tables, entry_words}
use Rattle.sheet_rules.specs.Read.{short_stores}
use Rattle.panel_rules.specs.Runs.{Held, Call}
use Rattle.panel_rules.specs.Views.{bytes_after, held_after}
use Rattle.panel_rules.specs.Book.{same_axis, table_refusal}
use Rattle.panel_rules.specs.Added.{call_entry}
use Rattle.panel_rules.proofs.Fit.{EntriesFit}
use Rattle.panel_rules.proofs.AxisEntry.{length_store, length-bytes, more-entries, entered-fit}
use Rattle.edit_rules.specs.Edits.{Edit}
use Rattle.edit_rules.specs.Settled.{calls_of, entered_on, more_on, calls_fault, view_by, edits_fault, edits_held}
use Rattle.edit_rules.proofs.Fits.{edits_fit}
use Rattle.edit_rules.proofs.Held.{AllAccepted, all-accepted, no_entries_fit, edit_held}
use Rattle.history_demands.specs.Run.{AsLong}

-- ---- entries

module _ (a : Axis) (v : AxisView) where
  -- calls of which the table refuses none, after entries that fit
  calls-fit : (es : List Entry) (entries used : Axis → ℕ) (calls : List Call) → EntriesFit v es
      → entries a ≡ length (entry_words v) + length es → used a ≡ length (bytes_after v es) → calls_fault entries used calls ≡ 0
      → EntriesFit v (es ++ entered_on a calls)
  unfolding calls_fault entered_on
  calls-fit es entries used [] f m n z = subst (EntriesFit v) (sym (append-nil es)) f
  calls-fit es entries used (c ∷ calls) f m n z =
      go (eqb (table_refusal (entries c.axis) (used c.axis) c.line c.name) 0) refl z
      (λ ds. calls-fit ds (more_on c.axis 1 entries) (more_on c.axis (length c.name) used) calls)
    where
      Rest : List Entry → (Axis → ℕ) → (Axis → ℕ) → Type 0
      Rest ds more longer =
          EntriesFit v ds → more a ≡ length (entry_words v) + length ds → longer a ≡ length (bytes_after v ds) → calls_fault more longer calls ≡ 0
          → EntriesFit v (ds ++ entered_on a calls)

      here : (b : Axis) (s : Bool) → same_axis a b ≡ s → (s ≡ true → a ≡ b)
          → table_refusal (entries b) (used b) c.line c.name ≡ 0 → calls_fault (more_on b 1 entries) (more_on b (length c.name) used) calls ≡ 0
          → ((ds : List Entry) → Rest ds (more_on b 1 entries) (more_on b (length c.name) used))
          → EntriesFit v (es ++ cond s (call_entry c ∷ entered_on a calls) (entered_on a calls))
      here b true p q t y i =
          let there : table_refusal (length (entry_words v) + length es) (length (bytes_after v es)) c.line c.name ≡ 0 = rw (sym m, sym n, q refl) t in
          subst (EntriesFit v) (append_assoc es (call_entry c ∷ []) (entered_on a calls))
          (i (es ++ (call_entry c ∷ [])) (entered-fit v es (call_entry c) there f)
          (rw (p, more-entries v es (call_entry c), m))
          (rw (p, length-bytes v es (call_entry c), n)) y)
      here b false p q t y i = i es f (rw (p, m)) (rw (p, n)) y

      equal : (x y : Axis) → same_axis x y ≡ true → x ≡ y
      equal Column Column e = refl
      equal Column Row e = absurd (false≢true e)
      equal Row Column e = absurd (false≢true e)
      equal Row Row e = refl

      go : (b : Bool) → eqb (table_refusal (entries c.axis) (used c.axis) c.line c.name) 0 ≡ b
          → cond b (calls_fault (more_on c.axis 1 entries) (more_on c.axis (length c.name) used) calls) (table_refusal (entries c.axis) (used c.axis) c.line c.name) ≡ 0
          → ((ds : List Entry) → Rest ds (more_on c.axis 1 entries) (more_on c.axis (length c.name) used))
          → EntriesFit v (es ++ cond (same_axis a c.axis) (call_entry c ∷ entered_on a calls) (entered_on a calls))
      go true e y i =
          here c.axis (same_axis a c.axis) refl (equal a c.axis) (eqb-true (table_refusal (entries c.axis) (used c.axis) c.line c.name) 0 e) y i
      go false e y i = absurd (eqb-false (table_refusal (entries c.axis) (used c.axis) c.line c.name) 0 e y)

-- those of accepted edits, after the lines of these
module _ (v : PanelView) (f : FitsPanel v) (edits : List Edit) (z : edits_fault v edits ≡ 0) where
  abbrev w : PanelView
  w = view_by v edits

  w-fits : FitsPanel w
  w-fits = edits_fit v f edits

  accepted : AllAccepted v edits
  accepted = all-accepted v edits z

  pub entries_fit : (a : Axis) → EntriesFit (view_in w a) (entered_on a (calls_of edits))
  entries_fit a =
      calls-fit a (view_in w a) [] (λ b. length (entry_words (view_in w b))) (λ b. length (axis_bytes (view_in w b))) (calls_of edits) (no_entries_fit w w-fits accepted.end a)
      (sym (add-zero (length (entry_words (view_in w a))))) (ap length (sym (append-nil (axis_bytes (view_in w a))))) accepted.entries

-- ---- stores

long_stores : (a b : ℕ) → (ltb a 32768 || ltb b 32768) ≡ false → (32768 ≤ a) × (32768 ≤ b)
long_stores a b = go (ltb a 32768) (ltb b 32768) refl refl
  where
    go : (t u : Bool) → ltb a 32768 ≡ t → ltb b 32768 ≡ u → (t || u) ≡ false → (32768 ≤ a) × (32768 ≤ b)
    go true u p q e = absurd (false≢true (sym e))
    go false true p q e = absurd (false≢true (sym e))
    go false false p q e = (ltb-false a 32768 p, ltb-false b 32768 q)

pub stores-kept : (v : PanelView) (t : Tables) (edits : List Edit) → FitsPanel v → short_stores t ≡ false → edits_fault v edits ≡ 0 → AsLong (edits_held v t edits).tables t
unfolding held_after
stores-kept v t edits f long z =
    let l = long_stores (length t.column_store) (length t.row_store) long in
    let w = view_by v edits in
    let c = entries_fit v f edits z Column in
    let r = entries_fit v f edits z Row in
    subst (λ (h : Held). AsLong h.tables t) (sym (edit_held v t edits f long z))
    (record {
      columns = length_store w.columns (entered_on Column (calls_of edits)) t.column_store (omega (arith, c.bytes, l.0));
      rows = length_store w.rows (entered_on Row (calls_of edits)) t.row_store (omega (arith, r.bytes, l.1));
    })

pub as-long : (t u x : Tables) → AsLong t u → AsLong u x → AsLong t x
as-long t u x p q = record { columns = p.columns ∙ q.columns; rows = p.rows ∙ q.rows }

pub long-too : (t u : Tables) → AsLong t u → short_stores u ≡ false → short_stores t ≡ false
long-too t u p e = rw (p.columns, p.rows) e
