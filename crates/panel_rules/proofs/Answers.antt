-- What each call answers after an accepted sheet and accepted entries, read off the view and those entries alone. Assumes nothing.
use Prim.Native.Nat.{ℕ, ◌≤◌, ◌<◌, min}
use mathlib.Core.Path.{◌≡◌, refl, sym, ap, ◌∙◌}
use mathlib.Core.List.{List, [], ◌++◌, map}
use mathlib.Core.Bool.{Bool, true, false, cond, ◌||◌, false≢true}
use native.Mathlib.Omega.{arith}
use lib.Dec.{ltb}
use lib.ListN.{length, length-map, length-append}
use borrow.Author.Tests.{ltb-true, ltb-false, le-ltb}
use Rattle.coordinates.specs.declared.axis.Axis.{Axis}
use Rattle.coordinates.specs.declared.axis.Axis.TheVariants.{Column, Row}
use Rattle.coordinates.specs.Refusals.{no_refusal, count}
use Rattle.name_rules.specs.Css as Css
use Rattle.name_rules.specs.Css.{Entry, AxisNames}
use Rattle.name_rules.specs.Rule.{named?, resolve, held_ends}
use Rattle.name_entries.specs.Entries.{entry_of, named_entry, entries_of}
use Rattle.name_entries.specs.LineNames.{of_axis}
use Rattle.name_resolver.specs.Placements.{ends_of, held_answer, resolved_line, held_line, resolution_of}
use Rattle.name_resolver.proofs.Theorems.{resolution-accepted}
use Rattle.axis_tables.specs.declared.AxisGrid.{AxisGrid}
use Rattle.axis_tables.specs.View.{AxisView, sizes_of, components_of, axis_bytes}
use Rattle.panel_tables.specs.declared.PlacementPlace.{PlacementPlace}
use Rattle.panel_tables.specs.View.{PanelView}
use Rattle.panel_tables.specs.Axes.{grid_in, view_in}
use Rattle.panel_tables.specs.Placements.{placement_at as place_at}
use Rattle.panel_tables.specs.Written.{placement_words, placement_store}
use Rattle.panel_tables.proofs.Axes.{axis_in_fits}
use Rattle.panel_tables.proofs.Fits.{FitsPanel, few_placements}
use Rattle.sheet_rules.specs.Sheet as Sheet
use Rattle.sheet_rules.specs.Sheet.{counted, explicit_of, end_fault}
use Rattle.sheet_rules.specs.Panels.{Tables, entry_words, sized_state, sized_panel, tables_of}
use Rattle.sheet_rules.specs.Read.{short_stores}
use Rattle.sheet_end.proofs.Entries.{entries_read}
use Rattle.panel_rules.specs.Placing.{PlacementAnswer}
use Rattle.panel_rules.specs.Calls.{words_in, store_in, short_names, book_in, template_in, spares_in, names_in, explicit_size, line_count_in, line_name_in, axis_tracks, track_record}
use Rattle.panel_rules.specs.Placing.{line_placement, placed_by, refused_placement, resolve_placement}
use Rattle.panel_rules.specs.Runs.{Held, names_of, areas_of, size_of, placement_of, lists_of, name_of, record_with}
use Rattle.panel_rules.specs.Views.{words_after, store_after, state_after, held_after, entries_after, areas_in, names_after, css_end, placement_at, placement_after, size_after, lists_after, name_after, tracks_after, record_after, both}
use Rattle.panel_rules.specs.Ranges.{spanned, PanelRange}
use Rattle.panel_rules.proofs.Fit.{EntriesFit}
use Rattle.panel_rules.proofs.AxisEntry.{length_store}
use Rattle.panel_rules.proofs.Ends.{no_fault}
use Rattle.panel_rules.proofs.BookBack.{book-back}
use Rattle.panel_rules.proofs.AxisBack.{explicit_few, template-held, spares_held, tracks-held}
use Rattle.panel_rules.proofs.AreasBack.{areas-held}
use Rattle.panel_rules.proofs.PlacingBack.{axis-held, cell-held, start-held, end-held}

-- neither store is short
long_stores : (a b : ℕ) → (ltb a 32768 || ltb b 32768) ≡ false → (32768 ≤ a) × (32768 ≤ b)
long_stores a b = go (ltb a 32768) (ltb b 32768) refl refl
  where
    go : (t u : Bool) → ltb a 32768 ≡ t → ltb b 32768 ≡ u → (t || u) ≡ false → (32768 ≤ a) × (32768 ≤ b)
    go true u p q e = absurd (false≢true (sym e))
    go false true p q e = absurd (false≢true (sym e))
    go false false p q e = (ltb-false a 32768 p, ltb-false b 32768 q)

module _ (v : PanelView) (f : FitsPanel v) (range : PanelRange v) (ok : end_fault v ≡ 0) (t : Tables) (long : short_stores t ≡ false)
    (columns rows : List Entry) (c : EntriesFit v.columns columns) (r : EntriesFit v.rows rows) where
  -- what is held, and the further entries of each axis
  abbrev h : Held
  h = held_after v t columns rows

  abbrev es : Axis → List Entry
  es = both columns rows

  -- ---- what is held of an axis

  grid-held : (a : Axis) → grid_in h.panel.grid a ≡ (state_after (view_in v a) (es a)).grid
  unfolding held_after
  grid-held Column = refl
  grid-held Row = refl

  words-held : (a : Axis) → words_in (names_of h.tables) a ≡ words_after (view_in v a) (es a)
  unfolding held_after
  words-held Column = refl
  words-held Row = refl

  store-held : (a : Axis) → store_in (names_of h.tables) a ≡ store_after (view_in v a) (es a) (of_axis a t.column_store t.row_store)
  unfolding held_after
  store-held Column = refl
  store-held Row = refl

  -- the further entries of either axis fit
  entries_fit : (a : Axis) → EntriesFit (view_in v a) (es a)
  entries_fit Column = c
  entries_fit Row = r

  -- ---- its entries and its names

  -- the entries that are held are the sheet's, and then the further ones
  pub entries-after : (a : Axis) → book_in h.panel.grid (names_of h.tables) a ≡ entries_after (view_in v a) (es a)
  entries-after a =
      rw (grid-held a, words-held a, store-held a)
      (book-back (view_in v a) (axis_in_fits v a f) (es a) (entries_fit a) (entries_read (view_in v a) (axis_in_fits v a f) (no_fault v ok a)) (of_axis a t.column_store t.row_store))

  -- the explicit count is layer 3's
  explicit-after : (a : Axis) → (grid_in h.panel.grid a).size.explicit ≡ explicit_of (view_in v a)
  unfolding state_after sized_state
  explicit-after a = ap (λ (g : AxisGrid). g.size.explicit) (grid-held a)

  -- the drawn areas are the sheet's, as the axis sees them
  areas-after : (a : Axis) → (names_in h.panel.grid (names_of h.tables) (areas_of h.tables) a).areas ≡ areas_in a v.areas
  unfolding held_after sized_panel tables_of
  areas-after a = areas-held v.areas f.drawn f.areas a

  -- all that names its lines
  pub names-after : (a : Axis) → names_in h.panel.grid (names_of h.tables) (areas_of h.tables) a ≡ names_after v a (es a)
  names-after a = named_by (explicit-after a) (entries-after a) (areas-after a)
    where
      named_by : {m n : ℕ} {k l : List Entry} {x y : List Css.Area} → m ≡ n → k ≡ l → x ≡ y
          → ◌≡◌ {A = AxisNames} (record { explicit = m; book = k; areas = x }) (record { explicit = n; book = l; areas = y })
      named_by p q s = rw (p, q, s)

  -- as many entries as words
  count-after : (a : Axis) → (grid_in h.panel.grid a).entries ≡ length (entries_after (view_in v a) (es a))
  unfolding state_after sized_state entries_of
  count-after a =
      let x : AxisView = view_in v a in
      let e : length (entry_words x) ≡ length (Sheet.entries_of x) =
      sym (length-map (entry_words x) (λ (w : ℕ). named_entry (axis_bytes x ++ []) (entry_of w)))
      ∙ ap length (entries_read x (axis_in_fits v a f) (no_fault v ok a) []) in
      ap (λ (g : AxisGrid). g.entries) (grid-held a)
      ∙ omega (arith, e, length-append (Sheet.entries_of x) (es a))

  -- ---- the answers for an axis

  -- `explicit_size`
  pub size-after : (a : Axis) → size_of h a ≡ size_after (view_in v a)
  unfolding explicit_size size_after state_after sized_state
  size-after a = ap (λ (g : AxisGrid). g.size) (grid-held a)

  -- `line_count`
  pub lists-after : (a : Axis) → lists_of h a ≡ lists_after (view_in v a) (es a)
  unfolding line_count_in lists_after
  lists-after a = rw (count-after a, explicit-after a)

  -- no store is short
  long_after : short_names (names_of h.tables) ≡ false
  unfolding held_after
  long_after =
      let l = long_stores (length t.column_store) (length t.row_store) long in
      let p = length_store v.columns columns t.column_store (omega (arith, c.bytes, l.0)) in
      let q = length_store v.rows rows t.row_store (omega (arith, r.bytes, l.1)) in
      le-ltb (min (length (store_after v.columns columns t.column_store)) (length (store_after v.rows rows t.row_store))) 32768 (omega (arith, l.0, l.1))

  -- `line_name`
  pub name-after : (a : Axis) (line place : ℕ) → name_of h a line place ≡ name_after (view_in v a) (es a) line place
  unfolding line_name_in name_after
  name-after a line place = rw (long_after, explicit-after a, entries-after a)

  -- ---- the records: the components, the spare sizes and the counts that they are made of

  pub template-after : (a : Axis) → template_in (grid_in h.panel.grid a) (words_in (names_of h.tables) a) ≡ components_of (counted (view_in v a))
  template-after a = rw (grid-held a, words-held a) (template-held (view_in v a) (axis_in_fits v a f) (es a))

  pub spares-after : (a : Axis) → spares_in (grid_in h.panel.grid a) (words_in (names_of h.tables) a) ≡ map sizes_of (view_in v a).spares
  spares-after a = rw (grid-held a, words-held a) (spares_held (view_in v a) (axis_in_fits v a f) (es a))

  pub tracks-after : (a : Axis) → axis_tracks (grid_in h.panel.grid a) ≡ tracks_after (view_in v a)
  tracks-after a = ap axis_tracks (grid-held a) ∙ tracks-held (view_in v a) (spanned a v) (range.axes a) (explicit_few (view_in v a) (no_fault v ok a)) (es a)

  -- `track_record`
  pub record-after : (a : Axis) (items : List ℕ) (i : ℕ) → record_with h a items i ≡ record_after (view_in v a) items i
  unfolding track_record record_after
  record-after a items i = rw (tracks-after a, template-after a, spares-after a)

  -- ---- a placement

  -- the answer for two ends, by the rule over the names of an axis
  abbrev answer_for : Axis → Bool → Css.Placement → Css.Placement → PlacementAnswer
  answer_for a cell p q =
      let x : AxisNames = names_after v a (es a) in
      record { refusal = no_refusal; axis = a; cell = cell; line = ends_of (resolve x.explicit (named? x) p q); held = held_answer (held_ends x.explicit (named? x) p q) }

  -- placement i as its words and bytes hold it, and the names of its axis
  module _ (i : ℕ) (k : i < length v.placements) where
    abbrev place : PlacementPlace
    place = place_at (placement_words v.placements v.cells) i

    abbrev bytes : List ℕ
    bytes = placement_store v.placements

    abbrev names : AxisNames
    names = names_in h.panel.grid (names_of h.tables) (areas_of h.tables) place.axis

    -- nothing is refused: at most 10,000 explicit tracks
    resolved-after : resolution_of names bytes (line_placement place)
        ≡ (let x : AxisNames = names_after v place.axis (es place.axis) in
        record { refusal = no_refusal; line = resolved_line x bytes (line_placement place); held = held_line x bytes (line_placement place) })
    resolved-after =
        ap (λ (x : AxisNames). resolution_of x bytes (line_placement place)) (names-after place.axis)
        ∙ resolution-accepted (names_after v place.axis (es place.axis)) bytes (line_placement place) (explicit_few (view_in v place.axis) (no_fault v ok place.axis))

    -- the resolver's answer is the rule's for the sheet's placement
    placed-after : placed_by (resolution_of names bytes (line_placement place)) place.axis place.cell (short_names (names_of h.tables))
        ≡ answer_for (placement_at v i).axis (placement_at v i).cell (css_end (placement_at v i).start) (css_end (placement_at v i).end)
    placed-after =
        let g = f.placed in
        let s = range.placements in
        rw (
          resolved-after,
          long_after,
          start-held v.placements v.cells g s (few_placements v f) i k,
          end-held v.placements v.cells g s (few_placements v f) i k,
          axis-held v.placements v.cells g s (few_placements v f) i k,
        )
        (ap (λ (cell : Bool). answer_for (placement_at v i).axis cell (css_end (placement_at v i).start) (css_end (placement_at v i).end))
        (cell-held v.placements v.cells g s (few_placements v f) i k))

  -- `resolve_placement`
  pub placement-after : (i : ℕ) → placement_of h i ≡ placement_after v es i
  unfolding resolve_placement placement_after held_after sized_panel tables_of
  placement-after i = same_if (ltb i (length v.placements)) _ _ (λ e. placed-after i (ltb-true i (length v.placements) e))
    where
      same_if : (b : Bool) (x y : PlacementAnswer) → (b ≡ true → x ≡ y) → cond b x (refused_placement count) ≡ cond b y (refused_placement count)
      same_if true x y e = e refl
      same_if false x y e = refl
