-- One entry call on what is held after a sheet and entries: the entry comes last on its axis, or all stays as it was. Assumes nothing.
use Prim.Native.Nat.{ℕ, ◌+◌, ◌≤◌}
use mathlib.Core.Path.{◌≡◌, refl, sym, ap, ◌∙◌}
use mathlib.Core.Bool.{Bool, true, false}
use mathlib.Core.List.{List}
use native.Mathlib.Omega.{arith}
use lib.Dec.{eqb, ltb}
use lib.ListN.{length}
use borrow.Author.Tests.{ltb-false, eqb-true}
use Rattle.coordinates.specs.declared.axis.Axis.{Axis}
use Rattle.coordinates.specs.declared.axis.Axis.TheVariants.{Column, Row}
use Rattle.coordinates.specs.Refusals.{refusal_of}
use Rattle.name_rules.specs.Css.{Bytes, Entry}
use Rattle.std.proofs.lemmas.Bool.{or_parts}
use Rattle.axis_tables.specs.declared.AxisState.{AxisState}
use Rattle.panel_tables.specs.declared.Panel.{Panel}
use Rattle.panel_tables.specs.View.{PanelView}
use Rattle.panel_tables.specs.Axes.{view_in}
use Rattle.sheet_rules.specs.Panels.{Tables, entry_words}
use Rattle.sheet_rules.specs.Read.{short_stores}
use Rattle.panel_rules.specs.Calls.{NameTables, store_in, shorter_store, enter_refusal, enter_name}
use Rattle.panel_rules.specs.Runs.{names_of, Call, refusal_in, after}
use Rattle.panel_rules.specs.Views.{bytes_after, store_after, state_after, held_after, both}
use Rattle.panel_rules.specs.Added.{refusal_after, entries_with}
use Rattle.panel_rules.proofs.Fit.{EntriesFit}
use Rattle.panel_rules.proofs.AxisEntry.{table_refusal_lem, length_store, Entered, axis-entered}

-- ---- a call on anything

-- a call answers the number that it is refused by
pub enter_refusal_lem : (p : Panel) (t : NameTables) (a : Axis) (line : ℕ) (name : Bytes)
    → (enter_name p t a line name).answer.refusal ≡ refusal_of (enter_refusal p t a line name)
unfolding enter_name
enter_refusal_lem p t a line name = go (eqb (enter_refusal p t a line name) 0) refl
  where
    go : (b : Bool) → eqb (enter_refusal p t a line name) 0 ≡ b → (enter_name p t a line name).answer.refusal ≡ refusal_of (enter_refusal p t a line name)
    go true e = rw e (ap refusal_of (sym (eqb-true (enter_refusal p t a line name) 0 e)))
    go false e = rw e

-- ---- a call on what is held after a sheet and entries
module _ (v : PanelView) (t : Tables) (columns rows : List Entry) (long : short_stores t ≡ false)
    (few : EntriesFit v.columns columns) (less : EntriesFit v.rows rows) where
  -- the stores are long enough
  long-store : (a : Axis) → 32768 ≤ length (store_in (names_of t) a)
  long-store Column = ltb-false (length t.column_store) 32768 (or_parts (ltb (length t.column_store) 32768) (ltb (length t.row_store) 32768) long).0
  long-store Row = ltb-false (length t.row_store) 32768 (or_parts (ltb (length t.column_store) 32768) (ltb (length t.row_store) 32768) long).1

  -- both stores are as long as they were
  both_long : 32768 ≤ shorter_store (names_of (held_after v t columns rows).tables)
  unfolding held_after
  both_long =
      let c : length (store_after v.columns columns t.column_store) ≡ length t.column_store = length_store v.columns columns t.column_store (omega (arith, few.bytes, long-store Column)) in
      let r : length (store_after v.rows rows t.row_store) ≡ length t.row_store = length_store v.rows rows t.row_store (omega (arith, less.bytes, long-store Row)) in
      omega (arith, c, r, long-store Column, long-store Row)

  -- the table alone refuses a call
  refused-by : (a : Axis) (line : ℕ) (name : Bytes)
      → enter_refusal (held_after v t columns rows).panel (names_of (held_after v t columns rows).tables) a line name
      ≡ refusal_after (view_in v a) (both columns rows a) (record { axis = a; line = line; name = name })
  unfolding enter_refusal held_after state_after
  refused-by Column line name = table_refusal_lem (shorter_store (names_of (held_after v t columns rows).tables)) (length (entry_words v.columns) + length columns) (length (bytes_after v.columns columns)) line name both_long
  refused-by Row line name = table_refusal_lem (shorter_store (names_of (held_after v t columns rows).tables)) (length (entry_words v.rows) + length rows) (length (bytes_after v.rows rows)) line name both_long

  -- what a call on it answers
  pub refusal-held : (c : Call) → refusal_in (held_after v t columns rows) c ≡ refusal_of (refusal_after (view_in v c.axis) (both columns rows c.axis) c)
  refusal-held c =
      enter_refusal_lem (held_after v t columns rows).panel (names_of (held_after v t columns rows).tables) c.axis c.line c.name
      ∙ ap refusal_of (refused-by c.axis c.line c.name)

  -- what an accepted call leaves on its axis
  call-entered : (a : Axis) (line : ℕ) (name : Bytes) → eqb (refusal_after (view_in v a) (both columns rows a) (record { axis = a; line = line; name = name })) 0 ≡ true
      → Entered (view_in v a) (both columns rows a) (record { line = line; name = name }) (store_in (names_of t) a)
  call-entered a line name e =
      axis-entered (view_in v a) (both columns rows a) (record { line = line; name = name })
      (eqb-true (refusal_after (view_in v a) (both columns rows a) (record { axis = a; line = line; name = name })) 0 e)
      (store_in (names_of t) a) (long-store a)

  -- and what is held then
  after-of : (a : Axis) (line : ℕ) (name : Bytes) (b : Bool) → let c : Call = record { axis = a; line = line; name = name } in
      eqb (refusal_after (view_in v a) (both columns rows a) c) 0 ≡ b
      → after (held_after v t columns rows) c ≡ held_after v t (entries_with Column v.columns columns c) (entries_with Row v.rows rows c)
  unfolding enter_name held_after
  after-of Column line name true e = let k = call-entered Column line name e in rw (refused-by Column line name, e, ap (λ (s : AxisState). s.grid) k.state, ap (λ (s : AxisState). s.room) k.state, k.words, k.bytes)
  after-of Row line name true e = let k = call-entered Row line name e in rw (refused-by Row line name, e, ap (λ (s : AxisState). s.grid) k.state, ap (λ (s : AxisState). s.room) k.state, k.words, k.bytes)
  after-of Column line name false e = rw (refused-by Column line name, e)
  after-of Row line name false e = rw (refused-by Row line name, e)

  -- an accepted entry comes last on its axis; a refused call leaves everything as it was
  pub after-held : (c : Call) → after (held_after v t columns rows) c ≡ held_after v t (entries_with Column v.columns columns c) (entries_with Row v.rows rows c)
  after-held c = after-of c.axis c.line c.name (eqb (refusal_after (view_in v c.axis) (both columns rows c.axis) c) 0) refl
