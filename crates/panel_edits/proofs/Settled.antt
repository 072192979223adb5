-- What is held after lines, edits, the end and entries, of which none is refused, is what the edits of the panel leave, copied out. Assumes nothing.
use Prim.Native.Nat.{ℕ, ◌+◌, ◌≤◌}
use mathlib.Core.Path.{◌≡◌, refl, sym, ap, ◌∙◌}
use mathlib.Core.List.{List, [], ◌∷◌, ◌++◌, append-nil, map}
use mathlib.Core.Bool.{Bool, true, false, cond}
use native.Mathlib.Nat.{add-zero}
use native.Mathlib.Omega.{arith}
use lib.Dec.{eqb, ltb}
use lib.ListN.{length, drop, length-append}
use lib.Seq.{take_at}
use Rattle.std.proofs.Common.{take-append-drop}
use borrow.Author.Tests.{eqb-true, eqb-false, ltb-false}
use Rattle.std.proofs.lemmas.Bool.{or_parts}
use Rattle.coordinates.specs.declared.axis.Axis.{Axis}
use Rattle.coordinates.specs.declared.axis.Axis.TheVariants.{Column, Row}
use Rattle.name_rules.specs.Css.{Entry}
use Rattle.axis_tables.specs.Runs.{bytes_of, put_bytes, part_of}
use Rattle.axis_tables.specs.View.{AxisView, axis_bytes}
use Rattle.axis_tables.specs.Written.{names_store}
use Rattle.axis_tables.proofs.Fits.{Fits}
use Rattle.axis_tables.proofs.Lays.{length-pad, pad-take}
use Rattle.panel_tables.specs.View.{PanelView}
use Rattle.panel_tables.specs.Axes.{view_in}
use Rattle.panel_tables.specs.Written.{PanelHeld}
use Rattle.panel_tables.proofs.Axes.{axis_in_fits}
use Rattle.panel_tables.proofs.Fits.{FitsPanel}
use Rattle.sheet_rules.specs.Sheet.{end_fault}
use Rattle.sheet_rules.specs.Panels.{Tables, entry_words, sized_state, sized_panel, tables_of}
use Rattle.sheet_rules.specs.Read.{short_stores}
use Rattle.panel_rules.specs.Runs.{Held, Call, after_calls}
use Rattle.panel_rules.specs.Views.{entry_name, bytes_after, words_after, store_after, state_after, held_after}
use Rattle.panel_rules.specs.Book.{same_axis, table_refusal}
use Rattle.panel_rules.specs.Added.{call_entry}
use Rattle.panel_rules.proofs.AxisEntry.{table_accepted}
use Rattle.sheet.specs.Steps.{copied}
use Rattle.sheet.proofs.Follows.{held_sized}
use Rattle.sheet.proofs.Answers.{put-start}
use Rattle.edit_rules.specs.Edits.{Edit, edit_of}
use Rattle.edit_rules.specs.Settled.{calls_of, entered_on, more_on, calls_fault, enters_fault, view_by, edits_fault, edits_held}
use Rattle.edit_rules.proofs.Fits.{edits_fit}
use Rattle.edit_rules.proofs.Held.{AllAccepted, all-accepted, no_entries_fit, edit_held}
use Rattle.panel_edits.specs.Steps.{stepped_by}
use Rattle.panel_edits.specs.Entered.{entered}
use Rattle.panel_edits.proofs.EnteredCalls.{as_held, calls_same, entries_at, used_at, FollowsCalls, entries_after}

-- ---- once a sheet has ended

module _ (w : PanelView) (f : FitsPanel w) where
  -- the tables of a draft, as lent
  abbrev drafted : Tables
  drafted = (as_held (held_sized w)).tables

  -- a store is the bytes of its names, and the rest of it
  store_parts : (v : AxisView) → Fits v → axis_bytes v ++ drop (length (axis_bytes v)) (names_store v) ≡ names_store v
  unfolding names_store
  store_parts v k = ap (λ (l : List ℕ). l ++ drop (length (axis_bytes v)) (names_store v)) (sym (pad-take 32768 (axis_bytes v) k.bytes)) ∙ take-append-drop (length (axis_bytes v)) (names_store v)

  -- no further entries
  sized_same : as_held (held_sized w) ≡ held_after w drafted [] []
  unfolding held_after held_sized words_after store_after state_after sized_panel sized_state tables_of
  sized_same =
      sym
      (rw (
        append-nil (axis_bytes w.columns),
        append-nil (axis_bytes w.rows),
        append-nil (entry_words w.columns),
        append-nil (entry_words w.rows),
        add-zero (length (entry_words w.columns)),
        add-zero (length (entry_words w.rows)),
        store_parts w.columns f.columns,
        store_parts w.rows f.rows,
      ))

  drafted_long : short_stores drafted ≡ false
  unfolding held_sized names_store
  drafted_long = rw (length-pad 32768 (axis_bytes w.columns), length-pad 32768 (axis_bytes w.rows))

  -- entries are refused as calls after the sheet, and leave what those leave
  follows : end_fault w ≡ 0 → (texts : List (List ℕ)) → FollowsCalls w drafted drafted_long [] [] (calls_of (map edit_of texts)) (stepped_by entered (held_sized w) texts)
  follows z texts =
      entries_after w drafted drafted_long texts [] [] (held_sized w)
      (record { columns = no_entries_fit w f z Column; rows = no_entries_fit w f z Row; same = sized_same })

  -- with no further entries yet
  enters_same : (calls : List Call) → calls_fault (entries_at w [] []) (used_at w [] []) calls ≡ enters_fault w calls
  enters_same calls =
      calls_same (entries_at w [] []) (used_at w [] []) (λ a. length (entry_words (view_in w a))) (λ a. length (axis_bytes (view_in w a))) calls no_more no_bytes
    where
      no_more : (a : Axis) → entries_at w [] [] a ≡ length (entry_words (view_in w a))
      no_more Column = add-zero (length (entry_words w.columns))
      no_more Row = add-zero (length (entry_words w.rows))

      no_bytes : (a : Axis) → used_at w [] [] a ≡ length (axis_bytes (view_in w a))
      no_bytes Column = ap length (append-nil (axis_bytes w.columns))
      no_bytes Row = ap length (append-nil (axis_bytes w.rows))

  pub entries_follow : end_fault w ≡ 0 → (texts : List (List ℕ)) → (stepped_by entered (held_sized w) texts).fault ≡ enters_fault w (calls_of (map edit_of texts))
  entries_follow z texts = (follows z texts).fault ∙ enters_same (calls_of (map edit_of texts))

  pub entries_held : end_fault w ≡ 0 → (texts : List (List ℕ)) → enters_fault w (calls_of (map edit_of texts)) ≡ 0
      → as_held (stepped_by entered (held_sized w) texts).held ≡ after_calls (held_after w drafted [] []) (calls_of (map edit_of texts))
  entries_held z texts e = (follows z texts).held (entries_follow z texts ∙ e)

-- ---- entries that are accepted fit their store

more_few : (a : Axis) (n : ℕ) (used : Axis → ℕ) → used a + n ≤ 32768 → ((b : Axis) → used b ≤ 32768) → (b : Axis) → more_on a n used b ≤ 32768
more_few Column n used h few Column = h
more_few Column n used h few Row = few Row
more_few Row n used h few Column = few Column
more_few Row n used h few Row = h

calls_fit : (entries used : Axis → ℕ) (calls : List Call) → ((a : Axis) → used a ≤ 32768) → calls_fault entries used calls ≡ 0
    → (a : Axis) → used a + length (bytes_of entry_name (entered_on a calls)) ≤ 32768
unfolding calls_fault entered_on
calls_fit entries used [] few z a = omega (arith, few a)
calls_fit entries used (c ∷ calls) few z a = go (eqb refusal 0) refl z (λ f y. calls_fit (more_on c.axis 1 entries) (more_on c.axis (length c.name) used) calls f y a)
  where
    refusal : ℕ
    refusal = table_refusal (entries c.axis) (used c.axis) c.line c.name

    more : (b d : Axis) → more_on d (length c.name) used b + length (bytes_of entry_name (entered_on b calls)) ≤ 32768
        → used b + length (bytes_of entry_name (cond (same_axis b d) (call_entry c ∷ entered_on b calls) (entered_on b calls))) ≤ 32768
    more Column Column h = omega (arith, h, length-append c.name (bytes_of entry_name (entered_on Column calls)))
    more Column Row h = h
    more Row Column h = h
    more Row Row h = omega (arith, h, length-append c.name (bytes_of entry_name (entered_on Row calls)))

    go : (t : Bool) → eqb refusal 0 ≡ t
        → cond t (calls_fault (more_on c.axis 1 entries) (more_on c.axis (length c.name) used) calls) refusal ≡ 0
        → (((b : Axis) → more_on c.axis (length c.name) used b ≤ 32768) → calls_fault (more_on c.axis 1 entries) (more_on c.axis (length c.name) used) calls ≡ 0
        → more_on c.axis (length c.name) used a + length (bytes_of entry_name (entered_on a calls)) ≤ 32768)
        → used a + length (bytes_of entry_name (entered_on a (c ∷ calls))) ≤ 32768
    go true e y rest =
        let k = table_accepted (entries c.axis) (used c.axis) c.line c.name (eqb-true refusal 0 e) in
        more a c.axis (rest (more_few c.axis (length c.name) used k.fits few) y)
    go false e y rest = absurd (eqb-false refusal 0 e y)

-- ---- copied out

-- the names of an axis in a store that has room for them
store_copied : (v : AxisView) (es : List Entry) (draft store : List ℕ) → length (bytes_after v es) ≤ 32768 → 32768 ≤ length store
    → put_bytes store 0 (part_of (store_after v es draft) 0 (length (bytes_after v es))) ≡ store_after v es store
unfolding store_after
store_copied v es draft store few long =
    ap (put_bytes store 0) (take_at (bytes_after v es) (drop (length (bytes_after v es)) draft) (length (bytes_after v es)) refl)
    ∙ put-start store (bytes_after v es) (omega arith)

-- what a draft leaves
abbrev pub copied_held : PanelHeld → Tables → Held
copied_held h t = record { panel = h.panel; tables = copied h t.column_store t.row_store }

module _ (w : PanelView) (t : Tables) (long : short_stores t ≡ false) (es rs : List Entry)
    (few : length (bytes_after w.columns es) ≤ 32768) (less : length (bytes_after w.rows rs) ≤ 32768) where
  long_stores : (32768 ≤ length t.column_store) × (32768 ≤ length t.row_store)
  long_stores =
      let p = or_parts (ltb (length t.column_store) 32768) (ltb (length t.row_store) 32768) long in
      (ltb-false (length t.column_store) 32768 p.0, ltb-false (length t.row_store) 32768 p.1)

  held_copied : (d : Tables) (h : PanelHeld) → as_held h ≡ held_after w d es rs → copied_held h t ≡ held_after w t es rs
  unfolding held_after state_after tables_of
  held_copied d h e =
      ap copy e
      ∙ rw (store_copied w.columns es d.column_store t.column_store few long_stores.0, store_copied w.rows rs d.row_store t.row_store less long_stores.1)
    where
      copy : Held → Held
      copy x =
          record {
            panel = x.panel;
            tables = record {
              columns = x.tables.columns;
              rows = x.tables.rows;
              column_marks = x.tables.column_marks;
              row_marks = x.tables.row_marks;
              areas = x.tables.areas;
              area_bytes = x.tables.area_bytes;
              placements = x.tables.placements;
              placement_bytes = x.tables.placement_bytes;
              column_store = put_bytes t.column_store 0 (part_of x.tables.column_store 0 x.panel.room.columns.used);
              row_store = put_bytes t.row_store 0 (part_of x.tables.row_store 0 x.panel.room.rows.used);
            };
          }

-- ---- all together

module _ (v : PanelView) (f : FitsPanel v) (t : Tables) (long : short_stores t ≡ false) (texts : List (List ℕ)) (z : edits_fault v (map edit_of texts) ≡ 0) where
  abbrev edits : List Edit
  edits = map edit_of texts

  abbrev w : PanelView
  w = view_by v edits

  g : FitsPanel w
  g = edits_fit v f edits

  k : AllAccepted v edits
  k = all-accepted v edits z

  bytes_fit : (a : Axis) → length (axis_bytes (view_in w a)) ≤ 32768
  bytes_fit a = (axis_in_fits w a g).bytes

  names_fit : (a : Axis) → length (bytes_after (view_in w a) (entered_on a (calls_of edits))) ≤ 32768
  names_fit a =
      omega (
        arith,
        length-append (axis_bytes (view_in w a)) (bytes_of entry_name (entered_on a (calls_of edits))),
        calls_fit (λ a. length (entry_words (view_in w a))) (λ a. length (axis_bytes (view_in w a))) (calls_of edits) bytes_fit k.entries a,
      )

  -- what is held after them all
  draft_held : as_held (stepped_by entered (held_sized w) texts).held ≡ held_after w (drafted w g) (entered_on Column (calls_of edits)) (entered_on Row (calls_of edits))
  unfolding edits_held
  draft_held = entries_held w g k.end texts k.entries ∙ edit_held v (drafted w g) edits f (drafted_long w g) z

  pub settled_held : (h : PanelHeld) → h ≡ (stepped_by entered (held_sized w) texts).held → copied_held h t ≡ edits_held v t edits
  settled_held h e =
      held_copied w t long (entered_on Column (calls_of edits)) (entered_on Row (calls_of edits)) (names_fit Column) (names_fit Row) (drafted w g) h
      (ap as_held e ∙ draft_held)
      ∙ sym (edit_held v t edits f long z)
