-- A panel with another inner size after an accepted sheet and any entry calls. Assumes nothing.
use Prim.Native.Nat.{ℕ, ◌≤◌}
use mathlib.Core.Path.{◌≡◌, refl, sym, ap, ◌∙◌}
use mathlib.Core.Bool.{Bool, true, false, cond}
use mathlib.Core.List.{List}
use native.Mathlib.Omega.{arith}
use borrow.Author.Tests.{eqb-true, le-ltb, ltb-false}
use lib.Dec.{eqb, ltb}
use lib.ListN.{length}
use Rattle.std.proofs.lemmas.Bool.{or_parts}
use Rattle.coordinates.specs.declared.axis.Axis.{Axis}
use Rattle.coordinates.specs.declared.axis.Axis.TheVariants.{Column, Row}
use Rattle.coordinates.specs.Refusals.{refusal_of, value}
use Rattle.name_rules.specs.Css.{Entry}
use Rattle.sizing.specs.Ranges.{length_in_range}
use Rattle.axis_tables.specs.View.{AxisView}
use Rattle.axis_tables.proofs.Fits.{Fits}
use Rattle.panel_tables.specs.View.{PanelView}
use Rattle.panel_tables.proofs.Axes.{axis_in_fits}
use Rattle.sheet_rules.specs.Sheet.{axis_fault, sheet_of}
use Rattle.sheet_rules.specs.Panels.{Tables, sized_panel, tables_of}
use Rattle.sheet_rules.specs.Read.{short_stores}
use Rattle.sheet_rules.proofs.Fits.{sheet_fits}
use Rattle.sheet_end.specs.End.{EndedAxis}
use Rattle.panel_rules.specs.Calls.{shorter_store, short_names}
use Rattle.panel_rules.specs.Runs.{Held, names_of, with_names, Call, Accepted, run_of}
use Rattle.panel_rules.specs.Views.{words_after, store_after, state_after, held_after}
use Rattle.panel_rules.specs.Added.{sheet_axis, added}
use Rattle.panel_rules.proofs.Fit.{EntriesFit}
use Rattle.panel_rules.proofs.AxisEntry.{length_store}
use Rattle.panel_rules.proofs.Ends.{sheet_end, no_fault}
use Rattle.panel_rules.proofs.Sheets.{accepted_sheet}
use Rattle.panel_rules.proofs.Held.{added_fit, run-held}
use Rattle.panel_sizes.specs.Runs.{resized}
use Rattle.panel_resized.specs.Axes.{resized_axis}
use Rattle.panel_resized.specs.Resized.{resized_in, resize_refusal, ResizedPanel, resized_to}
use Rattle.panel_resized.specs.Theorem.{after_resize, resized_view, entries_crowd, resize_fault, ResizeTheorem}
use Rattle.panel_resized.proofs.Again.{held-axis, axis-refusal, unrefused}
use Rattle.panel_resized.proofs.Resized.{outside, inside, refusal_is, refused, made}

-- what is held with what a resize leaves
abbrev left : Held → ResizedPanel → Held
left h r = record { panel = r.answer.panel; tables = with_names h.tables r.tables }

-- a refused one leaves all as it was
untouched : (h : Held) (a : Axis) (inner : ℕ) → (resize_refusal h.panel (names_of h.tables) a inner ≡ 0 → ⊥) → after_resize h a inner ≡ h
untouched h a inner n = ap (left h) (sym (refused h.panel (names_of h.tables) a inner (resize_refusal h.panel (names_of h.tables) a inner) n refl))

-- ---- on a view with further entries
module _ (v : PanelView) (t : Tables) (columns rows : List Entry) (long : short_stores t ≡ false) (few : EntriesFit v.columns columns) (less : EntriesFit v.rows rows) where
  -- both stores stay long enough
  long-stores : short_names (names_of (held_after v t columns rows).tables) ≡ false
  unfolding held_after
  long-stores =
      let o = or_parts (ltb (length t.column_store) 32768) (ltb (length t.row_store) 32768) long in
      let c : 32768 ≤ length t.column_store = ltb-false (length t.column_store) 32768 o.0 in
      let r : 32768 ≤ length t.row_store = ltb-false (length t.row_store) 32768 o.1 in
      let x : length (store_after v.columns columns t.column_store) ≡ length t.column_store = length_store v.columns columns t.column_store (omega (arith, few.bytes, c)) in
      let y : length (store_after v.rows rows t.row_store) ≡ length t.row_store = length_store v.rows rows t.row_store (omega (arith, less.bytes, r)) in
      le-ltb (shorter_store (names_of (held_after v t columns rows).tables)) 32768 (omega (arith, c, r, x, y))

zero_else : (n : ℕ) → cond (eqb n 0) 0 n ≡ n
zero_else n = go (eqb n 0) refl
  where
    go : (b : Bool) → eqb n 0 ≡ b → cond b 0 n ≡ n
    go true e = sym (eqb-true n 0 e)
    go false e = refl

-- ---- after a run
module _ (s : List ℕ) (t : Tables) (calls : List Call) (ok : Accepted s t) where
  abbrev view : PanelView
  view = (sheet_of s).view

  abbrev held : Held
  held = held_after view t (added s Column calls) (added s Row calls)

  -- the axis that the call asks
  asked : (a : Axis) (inner : ℕ) → resized_in held.panel (names_of held.tables) a inner
      ≡ resized_axis (state_after (sheet_axis s a) (added s a calls)) (words_after (sheet_axis s a) (added s a calls)) inner
  unfolding held_after
  asked Column inner = refl
  asked Row inner = refl

  -- the panel with the axis of the sheet with that inner size
  anew : (a : Axis) (inner : ℕ) → let x : AxisView = resized (sheet_axis s a) inner in
      left held (resized_to held.panel (names_of held.tables) a (record { answer = record { fault = 0; state = state_after x (added s a calls) }; words = words_after x (added s a calls) }))
      ≡ held_after (resized_view view a inner) t (added s Column calls) (added s Row calls)
  unfolding held_after sized_panel tables_of store_after
  anew Column inner = refl
  anew Row inner = refl

  module _ (a : Axis) (inner : ℕ) where
    abbrev axis : AxisView
    axis = sheet_axis s a

    abbrev entries : List Entry
    entries = added s a calls

    fits : Fits axis
    fits = axis_in_fits view a (sheet_fits s)

    good : (sheet_of s).fault ≡ 0
    good = (accepted_sheet s t ok).0

    unfaulted : axis_fault axis ≡ 0
    unfaulted = no_fault view (sheet_end s good) a

    fitting : EntriesFit axis entries
    fitting = added_fit s good a calls

    stores : short_names (names_of held.tables) ≡ false
    stores = long-stores view t (added s Column calls) (added s Row calls) (accepted_sheet s t ok).1 (added_fit s good Column calls) (added_fit s good Row calls)

    refusal-held : resize_refusal held.panel (names_of held.tables) a inner ≡ resize_fault axis entries inner
    unfolding resize_fault
    refusal-held = go (length_in_range inner) refl
      where
        go : (b : Bool) → length_in_range inner ≡ b
            → resize_refusal held.panel (names_of held.tables) a inner
            ≡ cond b (cond (eqb (axis_fault (resized axis inner)) 0) (entries_crowd (resized axis inner) entries) (axis_fault (resized axis inner))) value
        go false e = outside held.panel (names_of held.tables) a inner e
        go true e =
            inside held.panel (names_of held.tables) a inner e
            (cond (eqb (axis_fault (resized axis inner)) 0) (entries_crowd (resized axis inner) entries) (axis_fault (resized axis inner))) false
            (ap (λ (x : EndedAxis). x.answer.fault) (asked a inner) ∙ axis-refusal axis fits unfaulted entries fitting.few inner) stores
            ∙ zero_else _

    refusal-run : resize_refusal (run_of s t calls).panel (names_of (run_of s t calls).tables) a inner ≡ resize_fault axis entries inner
    refusal-run = ap (λ (h : Held). resize_refusal h.panel (names_of h.tables) a inner) (run-held s t calls ok) ∙ refusal-held

    accepted-held : resize_fault axis entries inner ≡ 0 → after_resize held a inner ≡ held_after (resized_view view a inner) t (added s Column calls) (added s Row calls)
    accepted-held z =
        let u = unrefused axis fits unfaulted entries fitting.few inner z in
        ap (left held)
        (sym (made held.panel (names_of held.tables) a inner (refusal-held ∙ z))
        ∙ ap (resized_to held.panel (names_of held.tables) a) (asked a inner ∙ held-axis axis fits unfaulted entries fitting.few inner u.1 u.2))
        ∙ anew a inner

    pub resize-theorem : ResizeTheorem s t calls a inner
    resize-theorem =
        record {
          refusal = refusal_is (run_of s t calls).panel (names_of (run_of s t calls).tables) a inner ∙ ap refusal_of refusal-run;
          accepted = λ z. ap (λ (h : Held). after_resize h a inner) (run-held s t calls ok) ∙ accepted-held z;
          refused = λ h. untouched (run_of s t calls) a inner (λ z. h (sym refusal-run ∙ z));
        }
