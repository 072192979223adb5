-- The three demands hold. Assumes nothing.
use Prim.Native.Nat.{ℕ, zero, suc, ◌+◌, ◌*◌, ◌-◌, ◌≤◌}
use mathlib.Core.Path.{◌≡◌, refl, sym, ap, ap₂, ◌∙◌, subst}
use mathlib.Core.Logic.{inl, inr}
use mathlib.Core.Bool.{Bool, true, false}
use mathlib.Core.List.Memᴰ
use mathlib.Core.List.{List, [], ◌++◌, map}
use native.Mathlib.Omega.{arith}
use borrow.Author.Tests.{eq-eqb, ne_eqb, eqb-true, eqb-false, leb-true, leb-false, ltb-true, ltb-false}
use lib.Dec.{eqb, leb, ltb}
use lib.ListN.{length, get_or, length-append}
use Rattle.coordinates.specs.declared.axis.Axis.{Axis}
use Rattle.coordinates.specs.Refusals.{no_refusal, refusal_of}
use Rattle.name_rules.specs.Css.{Bytes, Entry, AxisNames}
use Rattle.name_resolver.proofs.Theorems.{resolution-accepted, resolution-refused}
use Rattle.track_rules.specs.declared.GridTrack.{GridTrack}
use Rattle.track_rules.specs.Written.{written_out}
use Rattle.track_rules.specs.Lines.{Stands}
use Rattle.track_rules.specs.Tracks.{zero_grid_track}
use Rattle.track_rules.specs.Records.{tracks_in, records_in, no_track, axis_refusal, record_answer_of}
use Rattle.track_rules.proofs.Sources.{answer-source}
use Rattle.track_run.specs.Run.{fill_answer_of, run_after}
use Rattle.axis_tables.specs.declared.AxisGrid.{AxisGrid}
use Rattle.axis_tables.specs.Runs.{bytes_of}
use Rattle.axis_tables.specs.View.{AxisLine, sizes_of, components_of, axis_bytes}
use Rattle.panel_tables.specs.declared.Grid.{Grid}
use Rattle.panel_tables.specs.declared.Panel.{Panel}
use Rattle.panel_tables.specs.declared.PlacementPlace.{PlacementPlace}
use Rattle.panel_tables.specs.View.{PanelView}
use Rattle.panel_tables.specs.Placements.{placement_at as place_at}
use Rattle.sheet_rules.specs.Sheet.{Outcome, counted, display_of, overlap_of, sheet_of, entries_of}
use Rattle.sheet_rules.proofs.Chosen.{former_outcome, overlap-refused}
use Rattle.sheet_rules.proofs.Overlaps.{refused_pair}
use Rattle.sheet_rules.specs.Rows.{Row, overlap, number_of, HoldsAt, FirstAt, Nowhere}
use Rattle.sheet_rules.specs.Valid.{ValidTemplate, CssCounted}
use Rattle.sheet_rules.specs.Panels.{Tables, entry_words, sized_state}
use Rattle.sheet_rules.proofs.Counted.{invalid_nothing}
use Rattle.sheet_rules.specs.Read.{short_stores, read_by, strict_by, read_sheet}
use Rattle.sheet_rules.proofs.Contents.{view_says}
use Rattle.sheet_rules.proofs.Theorem.{Found, nowhere, found, sheet_found, refused_exactly}
use Rattle.sheet_rules.proofs.Only.{some_number}
use Rattle.panel_rules.specs.Calls.{NameTables, NamedWords, names_in, axis_tracks, short_names, enter_refusal, enter_name, track_record}
use Rattle.panel_rules.specs.Placing.{line_placement, resolve_placement}
use Rattle.panel_rules.specs.Runs.{Call, Accepted, run_of, placement_of, record_with, run_with}
use Rattle.panel_rules.specs.Views.{entry_name, bytes_after, entries_after, placement_at, placement_after, size_after, record_after, tracks_after}
use Rattle.panel_rules.specs.Added.{sheet_axis, added}
use Rattle.panel_rules.specs.Book.{CssTemplate, as_written, added_from, sheet_book, sheet_tracks, book, book_bytes, table_refusal, AllValid, AllCounted, RegularTemplate, Regular}
use Rattle.panel_rules.proofs.Sheets.{read_overlap, accepted_sheet}
use Rattle.panel_demands.proofs.Former.{former_number}
use Rattle.panel_rules.proofs.Held.{run_refusal_lem}
use Rattle.panel_rules.proofs.Invariants.{areas-largest}
use Rattle.panel_rules.proofs.Counted.{valid-counted}
use Rattle.panel_rules.proofs.Invalid.{as_if_empty}
use Rattle.panel_rules.proofs.Book as Book
use Rattle.panel_rules.proofs.Run.{added_to, placement-css, placement-marks, placement-only, placement-uncut, run-css, run-marked, run_only}
use Rattle.panel_rules.proofs.Order.{spanned-same, order_same}
use Rattle.panel_rules.proofs.Tracks as Tracks
use Rattle.panel_rules.proofs.Runs.{axis_fits, words_entries, added_to_lem, few-tracks, run-entries, run-sizes, run-lists, run-names, run-records, run-placements, run-template, run-used, run-bytes, run-filled, run-fill, run-marks, marks_enough, run_axis}
use Rattle.panel_rules.proofs.AxisBack.{state-unrefused}
use Rattle.panel_rules.proofs.ColumnsAlone.{columns_alone}
use Rattle.panel_demands.specs.Demands.{SheetAnswered, EntryAnswered, PlacementAnswered, RecordAnswered, RunAnswered, FirstDemand, InvalidTheorem, SecondDemand, TemplateTheorem, RunTheorem, both_written, ThirdDemand, WithoutValidity}
use Rattle.panel_demands.specs.Demands.{sheet_accepted, sheet_overlaps, sheet_refused, sheet_short, entry_accepted, entry_refused, placement_accepted, placement_outside, placement_short, record_accepted, record_outside, record_short, run_accepted, run_short}

-- ==== demand 1

module _ (s : List ℕ) (t : Tables) where
  abbrev o : Outcome
  o = display_of s

  -- no areas share a cell
  by-stores : Nowhere (HoldsAt s) → (overlap_of s).later ≡ 0 → o.fault ≡ 0 → (b : Bool) → short_stores t ≡ b → SheetAnswered s t
  unfolding read_sheet strict_by read_by
  by-stores h n z true e = sheet_short h e (rw (eq-eqb (overlap_of s).later 0 n, eq-eqb o.fault 0 z, e))
  by-stores h n z false e =
      sheet_accepted h e (rw (eq-eqb (overlap_of s).later 0 n, eq-eqb o.fault 0 z, e)) (rw (eq-eqb (overlap_of s).later 0 n, eq-eqb o.fault 0 z, e) (refl, refl))

  by_row : (k : ℕ) (r : Row) → (r ≡ overlap → ⊥) → FirstAt (HoldsAt s) k r → (overlap_of s).later ≡ 0 → o.fault ≡ number_of r → o.line ≡ k → SheetAnswered s t
  unfolding read_sheet strict_by read_by
  by_row k r d h n e l = sheet_refused k r d h (rw (eq-eqb (overlap_of s).later 0 n, ne_eqb o.fault 0 (λ z. some_number r (sym e ∙ z)), e, l))

  sheet-answered : SheetAnswered s t
  sheet-answered = go (eqb (overlap_of s).later 0) refl (sheet_found s)
    where
      no-twelve : (r : Row) → number_of r ≡ o.fault → r ≡ overlap → ⊥
      no-twelve r e d = former_number s (sym e ∙ ap number_of d)

      go : (b : Bool) → eqb (overlap_of s).later 0 ≡ b → Found (HoldsAt s) 0 (sheet_of s).fault (sheet_of s).line → SheetAnswered s t
      go true n f = former (subst (λ (x : Outcome). Found (HoldsAt s) 0 x.fault x.line) (former_outcome s (eqb-true (overlap_of s).later 0 n)) f)
        where
          former : Found (HoldsAt s) 0 o.fault o.line → SheetAnswered s t
          former (nowhere e l h) = by-stores h (eqb-true (overlap_of s).later 0 n) e (short_stores t) refl
          former (found k r e l h) = by_row k r (no-twelve r (sym e)) h (eqb-true (overlap_of s).later 0 n) e (l ∙ omega arith)
      go false n f =
          let x = eqb-false (overlap_of s).later 0 n in
          sheet_overlaps (overlap_of s).line (overlap_of s).earlier (overlap_of s).later ((refused_exactly s (overlap_of s).line overlap).0 (overlap-refused s x))
          (refused_pair s x) (read_overlap s t x)

entry-answered : (p : Panel) (t : NameTables) (a : Axis) (line : ℕ) (name : Bytes) → EntryAnswered p t a line name
unfolding enter_name
entry-answered p t a line name = go (enter_refusal p t a line name) refl
  where
    go : (n : ℕ) → enter_refusal p t a line name ≡ n → EntryAnswered p t a line name
    go zero e = entry_accepted e (rw e)
    go (suc n) e = entry_refused n e (rw (ne_eqb (enter_refusal p t a line name) 0 (λ z. omega arith), e))

placement_answered : (p : Grid) (t : NameTables) (areas placements : NamedWords) (i : ℕ) → PlacementAnswered p t areas placements i
unfolding resolve_placement
placement_answered p t areas placements i = go (ltb i p.placements) refl
  where
    place : PlacementPlace
    place = place_at placements.words i

    x : AxisNames
    x = names_in p t areas place.axis

    by : ltb i p.placements ≡ true → (c : Bool) → leb x.explicit 10000 ≡ c → (d : Bool) → short_names t ≡ d → PlacementAnswered p t areas placements i
    by e false f d g =
        let many = leb-false x.explicit 10000 f in
        placement_outside (inr many) (rw (e, resolution-refused x placements.bytes (line_placement place) many))
    by e true f true g =
        let few = leb-true x.explicit 10000 f in
        placement_short (ltb-true i p.placements e) few g (rw (e, resolution-accepted x placements.bytes (line_placement place) few, g))
    by e true f false g =
        let few = leb-true x.explicit 10000 f in
        placement_accepted (ltb-true i p.placements e) few g (rw (e, resolution-accepted x placements.bytes (line_placement place) few, g))

    go : (b : Bool) → ltb i p.placements ≡ b → PlacementAnswered p t areas placements i
    go false e = placement_outside (inl (ltb-false i p.placements e)) (rw e)
    go true e = by e (leb x.explicit 10000) refl (short_names t) refl

record_answered : (s : AxisGrid) (words items : List ℕ) (i : ℕ) → RecordAnswered s words items i
unfolding track_record record_answer_of
record_answered s words items i = go (leb (records_in (axis_tracks s)) i) refl (ltb (length items) (tracks_in (axis_tracks s))) refl
  where
    u : eqb (axis_refusal (axis_tracks s)) 0 ≡ true
    u = eq-eqb (axis_refusal (axis_tracks s)) 0 (state-unrefused s)

    go : (b : Bool) → leb (records_in (axis_tracks s)) i ≡ b → (c : Bool) → ltb (length items) (tracks_in (axis_tracks s)) ≡ c → RecordAnswered s words items i
    go true e c f = record_outside (leb-true (records_in (axis_tracks s)) i e) (rw (u, e))
    go false e true f = record_short (leb-false (records_in (axis_tracks s)) i e) (ltb-true (length items) (tracks_in (axis_tracks s)) f) (rw (u, e, f))
    go false e false f = record_accepted (leb-false (records_in (axis_tracks s)) i e) (ltb-false (length items) (tracks_in (axis_tracks s)) f) (rw (u, e, f))

run-answered : (s : AxisGrid) (words items : List ℕ) (run : List GridTrack) → RunAnswered s words items run
unfolding fill_answer_of run_after
run-answered s words items run = go (ltb (length run) (records_in (axis_tracks s))) refl (ltb (length items) (tracks_in (axis_tracks s))) refl
  where
    u : eqb (axis_refusal (axis_tracks s)) 0 ≡ true
    u = eq-eqb (axis_refusal (axis_tracks s)) 0 (state-unrefused s)

    go : (b : Bool) → ltb (length run) (records_in (axis_tracks s)) ≡ b → (c : Bool) → ltb (length items) (tracks_in (axis_tracks s)) ≡ c → RunAnswered s words items run
    go true e c f = run_short (inl (ltb-true (length run) (records_in (axis_tracks s)) e)) (rw (u, e)) (rw (u, e))
    go false e true f = run_short (inr (ltb-true (length items) (tracks_in (axis_tracks s)) f)) (rw (u, e, f)) (rw (u, e, f))
    go false e false f = run_accepted (ltb-false (length run) (records_in (axis_tracks s)) e) (ltb-false (length items) (tracks_in (axis_tracks s)) f) (rw (u, e, f))

pub first_demand : FirstDemand
first_demand =
    record { sheets = sheet-answered; entries = entry-answered; placements = placement_answered; records = record_answered; runs = run-answered }

-- ==== demand 2

-- an axis with an invalid template
invalid_theorem : (s : List ℕ) (t : Tables) (calls : List Call) → Accepted s t → (a : Axis) → (ValidTemplate (sheet_axis s a).template → ⊥) → InvalidTheorem s t calls a
unfolding size_after sized_state
invalid_theorem s t calls ok a h =
    let n = invalid_nothing (sheet_axis s a) h in
    record {
      sizes = run-sizes s t calls ok a ∙ ap₂ (λ (r e : ℕ). record { repetitions = r; explicit = e }) n.repetitions n.explicit;
      entries = run-entries s t calls ok a ∙ ap (λ (l : List Entry). l ++ added s a calls) n.entries;
      template = run-template s t calls ok a ∙ ap components_of n.template;
      used = run-used s t calls ok a ∙ length-append (axis_bytes (sheet_axis s a)) (bytes_of entry_name (added s a calls));
      bytes = run-bytes s t calls ok a;
    }

pub second_demand : (s : List ℕ) (t : Tables) (calls : List Call) → Accepted s t → SecondDemand s t calls
unfolding size_after record_after
second_demand s t calls ok =
    let z = (accepted_sheet s t ok).0 in
    record {
      view = view_says s z;
      sizes = run-sizes s t calls ok;
      repeats = λ a c valid m auto. rw (run-sizes s t calls ok a) (Book.found-repetitions (sheet_axis s a) valid c m auto);
      invalid = invalid_theorem s t calls ok;
      entries = run-entries s t calls ok;
      refusals = λ c. run_refusal_lem s t calls c ok;
      placements = run-placements s t calls ok;
      placed = λ i held p q. rw (run-placements s t calls ok i) (placement-css (sheet_of s).view (λ a. added s a calls) i held (few-tracks s z (placement_at (sheet_of s).view i).axis) p q);
      marked = λ i held p q. rw (run-placements s t calls ok i) (placement-marks (sheet_of s).view (λ a. added s a calls) i held (few-tracks s z (placement_at (sheet_of s).view i).axis) p q);
      only = λ i held p q r h e m. run-placements s t calls ok i ∙ placement-only (sheet_of s).view (λ a. added s a calls) i held (few-tracks s z (placement_at (sheet_of s).view i).axis) p q r h e m;
      unmarked = λ i held. rw (run-placements s t calls ok i) (placement-uncut (sheet_of s).view (λ a. added s a calls) i held);
      lists = run-lists s t calls ok;
      names = run-names s t calls ok;
      records = run-records s t calls ok;
      sources = λ a items long i held. rw (run-records s t calls ok a items i) (answer-source (tracks_after (sheet_axis s a)) (components_of (counted (sheet_axis s a))) (map sizes_of (sheet_axis s a).spares) (run_axis s z a) items i held long);
      lent = run-filled s t calls ok;
      filled = run-fill s t calls ok;
      marks = λ a. rw (run-marks s t calls ok a) (marks_enough s z a);
    }

-- ==== demand 3

-- an axis under the conditions of its own template, over what CSS takes for it
module _ (m : CssTemplate) (s : List ℕ) (t : Tables) (calls : List Call) (a : Axis) (ok : Accepted s t) (css : CssCounted (sheet_axis s a).template m.template)
    (r : RegularTemplate m (sheet_axis s a).line) where
  abbrev v : PanelView
  v = (sheet_of s).view

  good : (sheet_of s).fault ≡ 0
  good = (accepted_sheet s t ok).0

  entries-book : entries_of (sheet_axis s a) ≡ sheet_book m
  entries-book = Book.entries-book m v a calls (axis_fits s a) css r

  added-book : added s a calls ≡ added_from (length (sheet_book m)) (length (axis_bytes (sheet_axis s a))) a calls
  added-book = added_to_lem s good calls a ∙ ap (λ (l : List Entry). added_from (length l) (length (axis_bytes (sheet_axis s a))) a calls) entries-book

  -- as many entries, and as many bytes
  count-book : length (entry_words (sheet_axis s a)) + length (added s a calls) ≡ length (book m v a calls)
  unfolding book
  count-book =
      let added-there = added_from (length (sheet_book m)) (length (axis_bytes (sheet_axis s a))) a calls in
      omega (arith, words_entries s good a, ap length entries-book, ap length added-book, length-append (sheet_book m) added-there)

  bytes-book : length (bytes_after (sheet_axis s a) (added s a calls)) ≡ book_bytes m v a calls
  unfolding book_bytes
  bytes-book =
      length-append (axis_bytes (sheet_axis s a)) (bytes_of entry_name (added s a calls))
      ∙ ap (λ (l : List Entry). length (axis_bytes (sheet_axis s a)) + length (bytes_of entry_name l)) added-book

  tracks : (items : List ℕ) → tracks_in (tracks_after (sheet_axis s a)) ≤ length items → (j : ℕ) → 1 ≤ j → j ≤ sheet_tracks m
      → ((record_with (run_of s t calls) a items (2 * ((sheet_axis s a).negative + j) - 1)).refusal ≡ no_refusal)
      × Stands (get_or (written_out (components_of m.template) m.repetitions) (j - 1) no_track) (get_or items ((sheet_axis s a).negative + j - 1) 0)
      (record_with (run_of s t calls) a items (2 * ((sheet_axis s a).negative + j) - 1)).track
  tracks items long j from to =
      let f = axis_fits s a in
      let low : j ≤ length (written_out (components_of m.template) m.repetitions) = rw (Tracks.written-tracks m v a calls f css r) to in
      rw (run-records s t calls ok a items (2 * ((sheet_axis s a).negative + j) - 1))
      (Tracks.track-accepted m v a calls f css r (run_axis s good a) items long j from low, Tracks.track-after m v a calls f css r (run_axis s good a) items long j from low)

  lent : (items : List ℕ) (run : List GridTrack) → tracks_in (tracks_after (sheet_axis s a)) ≤ length items → records_in (tracks_after (sheet_axis s a)) ≤ length run
      → (j : ℕ) → 1 ≤ j → j ≤ sheet_tracks m
      → Stands (get_or (written_out (components_of m.template) m.repetitions) (j - 1) no_track) (get_or items ((sheet_axis s a).negative + j - 1) 0)
      (get_or (run_with (run_of s t calls) a items run) (2 * ((sheet_axis s a).negative + j) - 1) zero_grid_track)
  lent items run long room j from to =
      let f = axis_fits s a in
      let low : j ≤ length (written_out (components_of m.template) m.repetitions) = rw (Tracks.written-tracks m v a calls f css r) to in
      rw (run-filled s t calls ok a items run, Book.counted_same m v a calls f css r) (Tracks.track-run m v a calls f css r (run_axis s good a) items long j from low run room)

  pub template-theorem : TemplateTheorem m s t calls a
  template-theorem =
      record {
        entries = run-entries s t calls ok a ∙ ap (entries_after (sheet_axis s a)) (added_to_lem s good calls a) ∙ Book.book-after m v a calls (axis_fits s a) css r;
        refusals = λ line name. run_refusal_lem s t calls (record { axis = a; line = line; name = name }) ok ∙ ap₂ (λ (entries used : ℕ). refusal_of (table_refusal entries used line name)) count-book bytes-book;
        tracks = tracks;
        lent = lent;
      }

-- the entries that the calls add, counted from the sheet's entries on
placement_added : (s : List ℕ) (t : Tables) (calls : List Call) → Accepted s t → (i : ℕ)
    → placement_of (run_of s t calls) i ≡ placement_after (sheet_of s).view (added_to (sheet_of s).view calls) i
unfolding placement_after
placement_added s t calls ok i =
    run-placements s t calls ok i ∙ rw (added_to_lem s (accepted_sheet s t ok).0 calls (placement_at (sheet_of s).view i).axis)

pub run_theorem : (m : Axis → CssTemplate) (s : List ℕ) (t : Tables) (calls : List Call) → Accepted s t → AllCounted m (sheet_of s).view
    → Regular m (sheet_of s).view calls → RunTheorem m s t calls
run_theorem m s t calls ok css r =
    let few = few-tracks s (accepted_sheet s t ok).0 in
    record {
      placed = λ i held. rw (placement_added s t calls ok i) (run-css m (sheet_of s).view calls (axis_fits s) few css r i held);
      marked = λ i held. rw (placement_added s t calls ok i) (run-marked m (sheet_of s).view calls (axis_fits s) few css r i held);
      only = λ i held x h e k. placement_added s t calls ok i ∙ run_only m (sheet_of s).view calls (axis_fits s) few css r i held x h e k;
    }

-- an empty template meets the conditions
empty_regular : (n : ℕ) (l : AxisLine) → RegularTemplate (record { template = []; repetitions = n }) l
unfolding sheet_tracks
empty_regular n l = record { repetitions = λ c k. absurd (Memᴰ.not-nil k); repeated = tt; few = omega arith }

pub without_validity : WithoutValidity
without_validity =
    record {
      templates = template-theorem;
      runs = run_theorem;
      order = λ n m p q x y css also r u same entries i.
          placement_added p.sheet p.tables p.calls x i
          ∙ order_same n m (sheet_of p.sheet).view (sheet_of q.sheet).view p.calls q.calls (axis_fits p.sheet) (axis_fits q.sheet) css also r u same
          (λ a. areas-largest p.sheet a ∙ spanned-same a (sheet_of p.sheet).view (sheet_of q.sheet).view same ∙ sym (areas-largest q.sheet a)) entries i
          ∙ sym (placement_added q.sheet q.tables q.calls y i);
      invalid = λ n s a h. empty_regular n (sheet_axis s a).line;
      empty = as_if_empty;
    }

-- a valid template counts as it is written
all-counted : (n : Axis → ℕ) (s : List ℕ) → AllValid (sheet_of s).view → AllCounted (both_written n s) (sheet_of s).view
all-counted n s v a = valid-counted (sheet_axis s a).template (v a)

pub third_demand : ThirdDemand
third_demand =
    record {
      templates = λ n s t calls a ok v r. without_validity.templates (as_written n (sheet_axis s a)) s t calls a ok (valid-counted (sheet_axis s a).template v) r;
      runs = λ n s t calls ok v r. without_validity.runs (both_written n s) s t calls ok (all-counted n s v) r;
      order = λ n m p q x y v w r u same entries.
          without_validity.order (both_written n p.sheet) (both_written m q.sheet) p q x y (all-counted n p.sheet v) (all-counted m q.sheet w) r u same entries;
      columns = columns_alone;
    }
