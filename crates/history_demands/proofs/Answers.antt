-- What the calls answer over the steps up to the panel's own: demand 2, and the order freedom of demand 3. Assumes nothing.
use Prim.Native.Nat.{ℕ, ◌≤◌}
use mathlib.Core.Path.{◌≡◌, refl, sym, ap, ap₂, ◌∙◌, subst}
use mathlib.Core.List.{List, [], ◌++◌, map, append_assoc}
use mathlib.Core.Bool.{false}
use native.Mathlib.Omega.{arith}
use lib.ListN.{length, take, drop, length-map, length-append}
use lib.Seq.{take-append_seam}
use Rattle.coordinates.specs.declared.axis.Axis.{Axis}
use Rattle.coordinates.specs.declared.axis.Axis.TheVariants.{Column, Row}
use Rattle.coordinates.specs.Refusals.{refusal_of}
use Rattle.sizing.proofs.Words.{sizing_in_range_lem}
use Rattle.name_rules.specs.Css.{Entry}
use Rattle.name_entries.specs.LineNames.{of_axis}
use Rattle.name_entries.specs.Entries.{entry_of, named_entry, entries_of}
use Rattle.track_rules.specs.Records.{axis_refusal}
use Rattle.track_rules.proofs.Answers.{axis_unrefused}
use Rattle.track_rules.proofs.Sources.{answer-source}
use Rattle.axis_tables.specs.Runs.{bytes_of}
use Rattle.axis_tables.specs.View.{AxisView, sizes_of, components_of, axis_bytes}
use Rattle.axis_tables.proofs.Fits.{Fits}
use Rattle.panel_tables.specs.View.{PanelView}
use Rattle.panel_tables.specs.Axes.{grid_in, room_in, view_in}
use Rattle.panel_tables.proofs.Axes.{axis_in_fits}
use Rattle.panel_tables.proofs.Fits.{FitsPanel}
use Rattle.sheet_rules.specs.Sheet as Sheet
use Rattle.sheet_rules.specs.Sheet.{counted, explicit_of, end_fault, sheet_of}
use Rattle.sheet_rules.specs.Panels.{Tables, entry_words, sized_state}
use Rattle.sheet_rules.specs.Read.{short_stores}
use Rattle.sheet_rules.specs.Valid.{ValidTemplate}
use Rattle.sheet_rules.proofs.Counted.{invalid_nothing}
use Rattle.sheet_rules.proofs.Fits.{sheet_fits}
use Rattle.sheet_end.proofs.Entries.{entries_read}
use Rattle.panel_rules.specs.Calls.{book_in, words_in, store_in, template_in}
use Rattle.panel_rules.specs.Runs.{Held, names_of, refusal_in, size_of, placement_of, lists_of, name_of, record_with, run_with, fill_with, marks_of}
use Rattle.panel_rules.specs.Views.{entry_name, bytes_after, store_after, state_after, held_after, entries_after, lists_after, name_after, placement_at, placement_after, size_after, record_after, tracks_after, both}
use Rattle.panel_rules.specs.Added.{refusal_after}
use Rattle.panel_rules.specs.Book.{added_from}
use Rattle.panel_rules.specs.Ranges.{spanned, PanelRange}
use Rattle.panel_rules.proofs.Fit.{EntriesFit}
use Rattle.panel_rules.proofs.Ends.{no_fault}
use Rattle.panel_rules.proofs.OneCall.{refusal-held}
use Rattle.panel_rules.proofs.Sheets.{accepted_sheet}
use Rattle.panel_rules.proofs.Invariants.{sheet_range}
use Rattle.panel_rules.proofs.AxisBack.{explicit_few}
use Rattle.panel_rules.proofs.Book as Book
use Rattle.panel_rules.proofs.Answers as Closed
use Rattle.panel_rules.proofs.Run.{added_to, placement-css, placement-marks, placement-only, placement-uncut, run-css, run-marked, run_only}
use Rattle.panel_rules.proofs.Order.{spanned-same, order_same}
use Rattle.edit_rules.specs.Edits.{Edit}
use Rattle.edit_rules.specs.Theorem.{AllEdits}
use Rattle.edit_rules.specs.Settled.{calls_of, entered_on, view_by, edits_fault, edits_held}
use Rattle.edit_rules.proofs.Fits.{edits_fit}
use Rattle.edit_rules.proofs.Held.{all-accepted, all-added, edit_held}
use Rattle.edit_rules.proofs.Ranges.{edits_range}
use Rattle.edit_rules.proofs.Texts.{texts_all}
use Rattle.history_demands.specs.Acts.{HistoryRun, AcceptedRun, reached_by, past_edits}
use Rattle.history_demands.specs.Answers.{view_at, calls_at, entries_at, held_at, InvalidAxis, Answers, HistoryAnswers, HistoryOrder, HistoryBook}
use Rattle.history_demands.specs.Run.{GivenBy}
use Rattle.history_demands.proofs.Fit.{entries_fit, long-too}
use Rattle.history_demands.proofs.Here.{past_accepted}
use Rattle.history_demands.proofs.Runs.{run_held}

-- ---- what is held after accepted edits

module _ (v : PanelView) (f : FitsPanel v) (range : PanelRange v) (t : Tables) (long : short_stores t ≡ false) (edits : List Edit)
    (all : AllEdits edits) (z : edits_fault v edits ≡ 0) where
  abbrev w : PanelView
  w = view_by v edits

  abbrev columns : List Entry
  columns = entered_on Column (calls_of edits)

  abbrev rows : List Entry
  rows = entered_on Row (calls_of edits)

  abbrev es : Axis → List Entry
  es a = entered_on a (calls_of edits)

  abbrev h : Held
  h = edits_held v t edits

  pub w-fits : FitsPanel w
  w-fits = edits_fit v f edits

  pub w-range : PanelRange w
  w-range = edits_range v range edits all

  w-end : end_fault w ≡ 0
  w-end = (all-accepted v edits z).end

  c : EntriesFit w.columns columns
  c = entries_fit v f edits z Column

  r : EntriesFit w.rows rows
  r = entries_fit v f edits z Row

  -- an answer on it, in closed form
  of-closed : {A : Type 0} (answer : Held → A) → answer h ≡ answer (held_after w t columns rows)
  of-closed answer = ap answer (edit_held v t edits f long z)

  both-entered : (a : Axis) → both columns rows a ≡ es a
  both-entered Column = refl
  both-entered Row = refl

  pub few : (a : Axis) → explicit_of (view_in w a) ≤ 10000
  few a = explicit_few (view_in w a) (no_fault w w-end a)

  unrefused : (a : Axis) → axis_refusal (tracks_after (view_in w a)) ≡ 0
  unrefused a =
      let x = w-range.axes a in
      axis_unrefused (tracks_after (view_in w a)) (sizing_in_range_lem (view_in w a).line.gap) x.negative (few a) x.positive

  same_entries : (i : ℕ) → placement_after w (both columns rows) i ≡ placement_after w es i
  unfolding placement_after
  same_entries i = rw (both-entered (placement_at w i).axis)

  placements : (i : ℕ) → placement_of h i ≡ placement_after w es i
  placements i = of-closed (λ x. placement_of x i) ∙ Closed.placement-after w w-fits w-range w-end t long columns rows c r i ∙ same_entries i

  marks-held : (a : Axis) → marks_of h.tables a ≡ (view_in w a).marks
  unfolding held_after
  marks-held Column = of-closed (λ x. marks_of x.tables Column)
  marks-held Row = of-closed (λ x. marks_of x.tables Row)

  -- the bytes used, and the store: those of the `name` records, then those of the direct entries
  used-held : (a : Axis) → (room_in h.panel.room a).used ≡ length (bytes_after (view_in w a) (es a))
  unfolding held_after state_after
  used-held Column = of-closed (λ x. (room_in x.panel.room Column).used)
  used-held Row = of-closed (λ x. (room_in x.panel.room Row).used)

  store-held : (a : Axis) → store_in (names_of h.tables) a ≡ store_after (view_in w a) (es a) (of_axis a t.column_store t.row_store)
  unfolding held_after
  store-held Column = of-closed (λ x. store_in (names_of x.tables) Column)
  store-held Row = of-closed (λ x. store_in (names_of x.tables) Row)

  sizes-held : (a : Axis) → size_of h a ≡ size_after (view_in w a)
  sizes-held a = of-closed (λ x. size_of x a) ∙ Closed.size-after w w-fits w-range w-end t long columns rows c r a

  entries-held : (a : Axis) → book_in h.panel.grid (names_of h.tables) a ≡ entries_after (view_in w a) (es a)
  entries-held a =
      of-closed (λ x. book_in x.panel.grid (names_of x.tables) a)
      ∙ Closed.entries-after w w-fits w-range w-end t long columns rows c r a
      ∙ ap (entries_after (view_in w a)) (both-entered a)

  invalid-held : (a : Axis) → (ValidTemplate (view_in w a).template → ⊥) → InvalidAxis h (view_in w a) (es a) a
  unfolding size_after store_after sized_state
  invalid-held a counts =
      let n = invalid_nothing (view_in w a) counts in
      let b = axis_bytes (view_in w a) in
      let more = bytes_of entry_name (es a) in
      let rest = drop (length (b ++ more)) (of_axis a t.column_store t.row_store) in
      record {
        sizes = sizes-held a ∙ ap₂ (λ (x e : ℕ). record { repetitions = x; explicit = e }) n.repetitions n.explicit;
        entries = entries-held a ∙ ap (λ (l : List Entry). l ++ es a) n.entries;
        template = of-closed (λ x. template_in (grid_in x.panel.grid a) (words_in (names_of x.tables) a))
            ∙ Closed.template-after w w-fits w-range w-end t long columns rows c r a
            ∙ ap components_of n.template;
        used = used-held a ∙ length-append b more;
        bytes = ap (take (length b)) (store-held a ∙ append_assoc b more rest) ∙ take-append_seam b (more ++ rest);
      }

  pub answers : Answers h w es
  unfolding size_after record_after
  answers =
      record {
        sizes = sizes-held;
        repeats = λ a k valid m auto. rw (sizes-held a) (Book.found-repetitions (view_in w a) valid k m auto);
        invalid = invalid-held;
        entries = entries-held;
        refusals = λ k.
            of-closed (λ x. refusal_in x k)
            ∙ refusal-held w t columns rows long c r k
            ∙ ap (λ (l : List Entry). refusal_of (refusal_after (view_in w k.axis) l k)) (both-entered k.axis);
        placements = placements;
        placed = λ i held p q. rw (placements i) (placement-css w es i held (few (placement_at w i).axis) p q);
        marked = λ i held p q. rw (placements i) (placement-marks w es i held (few (placement_at w i).axis) p q);
        only = λ i held p q x k e m. placements i ∙ placement-only w es i held (few (placement_at w i).axis) p q x k e m;
        unmarked = λ i held. rw (placements i) (placement-uncut w es i held);
        lists = λ a.
            of-closed (λ x. lists_of x a) ∙ Closed.lists-after w w-fits w-range w-end t long columns rows c r a ∙ ap (lists_after (view_in w a)) (both-entered a);
        names = λ a line place.
            of-closed (λ x. name_of x a line place)
            ∙ Closed.name-after w w-fits w-range w-end t long columns rows c r a line place
            ∙ ap (λ (l : List Entry). name_after (view_in w a) l line place) (both-entered a);
        records = records;
        sources = λ a items enough i held. rw (records a items i) (answer-source (tracks_after (view_in w a)) (components_of (counted (view_in w a))) (map sizes_of (view_in w a).spares) (unrefused a) items i held enough);
        lent = λ a items run.
            of-closed (λ x. run_with x a items run)
            ∙ rw (
              Closed.tracks-after w w-fits w-range w-end t long columns rows c r a,
              Closed.template-after w w-fits w-range w-end t long columns rows c r a,
              Closed.spares-after w w-fits w-range w-end t long columns rows c r a,
            );
        filled = λ a items run. of-closed (λ x. fill_with x a items run) ∙ rw (Closed.tracks-after w w-fits w-range w-end t long columns rows c r a);
        marks = λ a. let x = w-range.axes a in rw (marks-held a) (omega (arith, x.negative, x.positive, x.marks, few a));
      }
    where
      records : (a : Axis) (items : List ℕ) (i : ℕ) → record_with h a items i ≡ record_after (view_in w a) items i
      records a items i = of-closed (λ x. record_with x a items i) ∙ Closed.record-after w w-fits w-range w-end t long columns rows c r a items i

  -- ---- over the book: the entries of accepted calls are those that the table accepts

  -- as many entries as words
  words-entries : (a : Axis) → length (entry_words (view_in w a)) ≡ length (Sheet.entries_of (view_in w a))
  unfolding entries_of
  words-entries a =
      let x : AxisView = view_in w a in
      sym (length-map (entry_words x) (λ (k : ℕ). named_entry (axis_bytes x ++ []) (entry_of k)))
      ∙ ap length (entries_read x (axis_in_fits w a w-fits) (no_fault w w-end a) [])

  pub added-entered : (a : Axis) → added_to w (calls_of edits) a ≡ es a
  added-entered a =
      ap (λ (n : ℕ). added_from n (length (axis_bytes (view_in w a))) a (calls_of edits)) (sym (words-entries a))
      ∙ all-added (λ b. length (entry_words (view_in w b))) (λ b. length (axis_bytes (view_in w b))) (calls_of edits) (all-accepted v edits z).entries a

  added_placements : (i : ℕ) → placement_after w es i ≡ placement_after w (added_to w (calls_of edits)) i
  unfolding placement_after
  added_placements i = rw (added-entered (placement_at w i).axis)

  pub placed-added : (i : ℕ) → placement_of h i ≡ placement_after w (added_to w (calls_of edits)) i
  placed-added i = placements i ∙ added_placements i

-- ---- histories

module _ (r : HistoryRun) (ok : AcceptedRun r) where
  abbrev steps : List Edit
  steps = past_edits (reached_by r).steps

  abbrev base : PanelView
  base = (sheet_of r.sheet).view

  abbrev given : GivenBy r.sheet r.tables steps (held_at r)
  given = (run_held r ok).panel

  long-given : short_stores given.lent ≡ false
  long-given = long-too given.lent r.tables given.stores (accepted_sheet r.sheet r.tables ok).1

  abbrev pub given-at : Tables
  given-at = given.lent

  pub accepted-at : edits_fault base steps ≡ 0
  accepted-at = past_accepted r.sheet r.tables ok r.bytes (reached_by r) (run_held r ok)

  pub answers-at : Answers (held_at r) (view_at r) (entries_at r)
  answers-at =
      subst (λ (x : Held). Answers x (view_at r) (entries_at r)) (sym given.held)
      (answers base (sheet_fits r.sheet) (sheet_range r.sheet) given.lent long-given steps (texts_all (reached_by r).steps.past) accepted-at)

  pub closed-at : held_at r ≡ held_after (view_at r) given-at (entries_at r Column) (entries_at r Row)
  closed-at = given.held ∙ edit_held base given.lent steps (sheet_fits r.sheet) long-given accepted-at

  placed-at : (i : ℕ) → placement_of (held_at r) i ≡ placement_after (view_at r) (added_to (view_at r) (calls_at r)) i
  placed-at i =
      ap (λ (x : Held). placement_of x i) given.held
      ∙ placed-added base (sheet_fits r.sheet) (sheet_range r.sheet) given.lent long-given steps (texts_all (reached_by r).steps.past) accepted-at i

  fits-at : (a : Axis) → Fits (view_in (view_at r) a)
  fits-at a = axis_in_fits (view_at r) a (edits_fit base (sheet_fits r.sheet) steps)

  areas-at : (a : Axis) → (view_in (view_at r) a).areas ≡ spanned a (view_at r)
  areas-at a = ((edits_range base (sheet_range r.sheet) steps (texts_all (reached_by r).steps.past)).axes a).areas

  few-at : (a : Axis) → explicit_of (view_in (view_at r) a) ≤ 10000
  few-at = few base (sheet_fits r.sheet) (sheet_range r.sheet) given.lent long-given steps (texts_all (reached_by r).steps.past) accepted-at

pub history_answers : HistoryAnswers
history_answers = answers-at

pub history_order : HistoryOrder
history_order n m p q x y css also c d same entries i =
    placed-at p x i
    ∙ order_same n m (view_at p) (view_at q) (calls_at p) (calls_at q) (fits-at p x) (fits-at q y) css also c d same
    (λ a. areas-at p x a ∙ spanned-same a (view_at p) (view_at q) same ∙ sym (areas-at q y a)) entries i
    ∙ sym (placed-at q y i)

pub history_book : HistoryBook
history_book m r ok css c =
    record {
      placed = λ i held. rw (placed-at r ok i) (run-css m (view_at r) (calls_at r) (fits-at r ok) (few-at r ok) css c i held);
      marked = λ i held. rw (placed-at r ok i) (run-marked m (view_at r) (calls_at r) (fits-at r ok) (few-at r ok) css c i held);
      only = λ i held x k e n. placed-at r ok i ∙ run_only m (view_at r) (calls_at r) (fits-at r ok) (few-at r ok) css c i held x k e n;
    }
