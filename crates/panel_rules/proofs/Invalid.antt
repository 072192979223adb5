-- An axis with an invalid template answers as it would with an empty one. Assumes nothing.
use Prim.Native.Nat.{ℕ, max}
use mathlib.Core.Path.{◌≡◌, refl, sym, ap, ap₂, ◌∙◌, subst}
use mathlib.Core.Logic.{⊎_elim}
use mathlib.Core.List.{List, [], ◌++◌, map}
use mathlib.Core.Bool.{cond}
use lib.Dec.{ltb}
use lib.ListN.{length}
use Rattle.coordinates.specs.declared.axis.Axis.{Axis}
use Rattle.coordinates.specs.declared.axis.Axis.TheVariants.{Column, Row}
use Rattle.coordinates.specs.Refusals.{count}
use Rattle.template_rules.specs.declared.TemplateSize.{TemplateSize}
use Rattle.name_rules.specs.Css.{Entry, AxisNames}
use Rattle.name_rules.specs.Rule.{named?, resolve, held_ends}
use Rattle.name_rules.specs.Template.{rule_from}
use Rattle.track_rules.specs.declared.GridTrack.{GridTrack}
use Rattle.track_rules.specs.declared.AxisTracks.{AxisTracks}
use Rattle.track_run.specs.Run.{fill_answer_of, run_after}
use Rattle.axis_tables.specs.View.{Item, AxisView, components_of, sizes_of}
use Rattle.panel_tables.specs.View.{PanelView}
use Rattle.panel_tables.specs.Axes.{view_in}
use Rattle.sheet_rules.specs.Sheet.{size_of, counted, explicit_of, items_of, entries_of, sheet_of}
use Rattle.sheet_rules.specs.Valid.{ValidTemplate}
use Rattle.sheet_rules.proofs.Counted.{counted_css, template_or_not}
use Rattle.panel_rules.specs.Views.{entries_after, areas_in, names_after, css_end, placement_at, answer_at, size_after, lists_after, name_after, record_after, tracks_after, placement_after}
use Rattle.panel_rules.specs.Placing.{PlacementAnswer}
use Rattle.panel_rules.specs.Placing.{refused_placement}
use Rattle.panel_rules.specs.Added.{sheet_axis, added}
use Rattle.panel_rules.specs.Alone.{Run}
use Rattle.panel_rules.specs.Invalid.{without_template, emptied, unlined, InvalidBesideEmpty, SameAnswers}
use Rattle.panel_rules.proofs.Counted.{size_for, counted-size}
use Rattle.panel_rules.proofs.Runs.{run-entries, run-sizes, run-lists, run-names, run-records, run-placements, run-filled, run-fill}

-- ---- two axes that answer alike: of the same `axis` record, spare sizes, implicit counts and areas, with the same size and the same that counts
record Alike (x y : AxisView) : Type 0 where
  line : x.line ≡ y.line
  spares : x.spares ≡ y.spares
  negative : x.negative ≡ y.negative
  positive : x.positive ≡ y.positive
  areas : x.areas ≡ y.areas
  size : size_of x ≡ size_of y
  template : counted x ≡ counted y

-- without its template an axis has none that counts
without_counted : (x : AxisView) → counted (without_template x) ≡ []
without_counted x = ⊎_elim (λ t. (counted_css (without_template x)).valid t) (λ h. (counted_css (without_template x)).invalid h) (template_or_not [])

without_alike : (x : AxisView) → (ValidTemplate x.template → ⊥) → Alike x (without_template x)
without_alike x h =
    let same : counted x ≡ counted (without_template x) = (counted_css x).invalid h ∙ sym (without_counted x) in
    record {
      line = refl;
      spares = refl;
      negative = refl;
      positive = refl;
      areas = refl;
      size = counted-size x ∙ ap (size_for x.line) same ∙ sym (counted-size (without_template x));
      template = same;
    }

self_alike : (x : AxisView) → Alike x x
self_alike x = record { line = refl; spares = refl; negative = refl; positive = refl; areas = refl; size = refl; template = refl }

emptied-alike : (a : Axis) (v : PanelView) → (ValidTemplate (view_in v a).template → ⊥) → (b : Axis) → Alike (view_in v b) (view_in (emptied a v) b)
emptied-alike Column v h Column = without_alike v.columns h
emptied-alike Column v h Row = self_alike v.rows
emptied-alike Row v h Column = self_alike v.columns
emptied-alike Row v h Row = without_alike v.rows h

-- ---- their answers
module _ (x y : AxisView) (s : Alike x y) where
  explicit-alike : explicit_of x ≡ explicit_of y
  explicit-alike = ap₂ (λ (t : TemplateSize) (n : ℕ). max t.tracks n) s.size s.areas

  entries-alike : entries_of x ≡ entries_of y
  unfolding entries_of
  entries-alike = ap₂ (λ (t : TemplateSize) (is : List Item). rule_from 1 (items_of t.repetitions is)) s.size s.template

  size-alike : size_after x ≡ size_after y
  unfolding size_after
  size-alike = rw (s.size, s.areas)

  after-alike : (es : List Entry) → entries_after x es ≡ entries_after y es
  after-alike es = ap (λ (l : List Entry). l ++ es) entries-alike

  lists-alike : (es : List Entry) → lists_after x es ≡ lists_after y es
  unfolding lists_after
  lists-alike es = rw (entries-alike, explicit-alike)

  names-alike : (es : List Entry) (line place : ℕ) → name_after x es line place ≡ name_after y es line place
  unfolding name_after
  names-alike es line place = rw (entries-alike, explicit-alike)

  tracks-alike : tracks_after x ≡ tracks_after y
  tracks-alike = rw (explicit-alike, s.size, s.negative, s.positive, s.line)

  records-alike : (items : List ℕ) (i : ℕ) → record_after x items i ≡ record_after y items i
  unfolding record_after
  records-alike items i = rw (tracks-alike, s.template, s.spares)

-- all that names the lines of an axis
named-alike : (a : Axis) (v : PanelView) → (ValidTemplate (view_in v a).template → ⊥) → (b : Axis) (es : List Entry) → names_after v b es ≡ names_after (emptied a v) b es
named-alike Column v h b es =
    let s = emptied-alike Column v h b in
    ap₂ (λ (n : ℕ) (l : List Entry). record { explicit = n; book = l; areas = areas_in b v.areas }) (explicit-alike _ _ s) (after-alike _ _ s es)
named-alike Row v h b es =
    let s = emptied-alike Row v h b in
    ap₂ (λ (n : ℕ) (l : List Entry). record { explicit = n; book = l; areas = areas_in b v.areas }) (explicit-alike _ _ s) (after-alike _ _ s es)

-- the answer for a placement, from all that names the lines of its axis
abbrev placed_by : PanelView → ℕ → AxisNames → PlacementAnswer
placed_by v i x =
    let p = placement_at v i in
    cond (ltb i (length v.placements)) (answer_at p (resolve x.explicit (named? x) (css_end p.start) (css_end p.end))
    (held_ends x.explicit (named? x) (css_end p.start) (css_end p.end))) (refused_placement count)

placement_alike : (a : Axis) (v : PanelView) → (ValidTemplate (view_in v a).template → ⊥) → (es : Axis → List Entry) (i : ℕ)
    → placement_after v es i ≡ placement_after (emptied a v) es i
unfolding placement_after
placement_alike Column v h es i = let a = (placement_at v i).axis in ap (placed_by v i) (named-alike Column v h a (es a))
placement_alike Row v h es i = let a = (placement_at v i).axis in ap (placed_by v i) (named-alike Row v h a (es a))

-- no answer turns on where lines stood
unlined-names : (v : PanelView) (a : Axis) (es : List Entry) → names_after v a es ≡ names_after (unlined v) a es
unlined-names v Column es = refl
unlined-names v Row es = refl

unlined-placed : (v : PanelView) (es : Axis → List Entry) (i : ℕ) → placement_after v es i ≡ placement_after (unlined v) es i
unfolding placement_after
unlined-placed v es i = let a = (placement_at v i).axis in ap (placed_by v i) (unlined-names v a (es a))

-- ---- two runs
pub as_if_empty : (a : Axis) (p q : Run) → InvalidBesideEmpty a p q → SameAnswers p q
as_if_empty a p q h =
    record {
      size = λ b. run-sizes p.sheet p.tables p.calls h.first b ∙ size-alike _ _ (alike b) ∙ sym (run-sizes q.sheet q.tables q.calls h.second b);
      entries = λ b.
          run-entries p.sheet p.tables p.calls h.first b
          ∙ after-alike _ _ (alike b) (added p.sheet b p.calls)
          ∙ ap (entries_after (sheet_axis q.sheet b)) (h.entries b)
          ∙ sym (run-entries q.sheet q.tables q.calls h.second b);
      lists = λ b.
          run-lists p.sheet p.tables p.calls h.first b
          ∙ lists-alike _ _ (alike b) (added p.sheet b p.calls)
          ∙ ap (lists_after (sheet_axis q.sheet b)) (h.entries b)
          ∙ sym (run-lists q.sheet q.tables q.calls h.second b);
      names = λ b line place.
          run-names p.sheet p.tables p.calls h.first b line place
          ∙ names-alike _ _ (alike b) (added p.sheet b p.calls) line place
          ∙ ap (λ (es : List Entry). name_after (sheet_axis q.sheet b) es line place) (h.entries b)
          ∙ sym (run-names q.sheet q.tables q.calls h.second b line place);
      placements = λ i.
          run-placements p.sheet p.tables p.calls h.first i
          ∙ placement_alike a (sheet_of p.sheet).view h.invalid (λ b. added p.sheet b p.calls) i
          ∙ unlined-placed (emptied a (sheet_of p.sheet).view) (λ b. added p.sheet b p.calls) i
          ∙ ap₂ (λ (v : PanelView) (es : Axis → List Entry). placement_after v es i) (sym h.panel) (λ j b. h.entries b j)
          ∙ sym (unlined-placed (sheet_of q.sheet).view (λ b. added q.sheet b q.calls) i)
          ∙ sym (run-placements q.sheet q.tables q.calls h.second i);
      records = λ b items i.
          run-records p.sheet p.tables p.calls h.first b items i
          ∙ records-alike _ _ (alike b) items i
          ∙ sym (run-records q.sheet q.tables q.calls h.second b items i);
      lent = λ b items run. run-filled p.sheet p.tables p.calls h.first b items run ∙ filled-alike b items run ∙ sym (run-filled q.sheet q.tables q.calls h.second b items run);
      filled = λ b items run.
          run-fill p.sheet p.tables p.calls h.first b items run
          ∙ ap (λ (t : AxisTracks). fill_answer_of t (length run) (length items)) (tracks-alike _ _ (alike b))
          ∙ sym (run-fill q.sheet q.tables q.calls h.second b items run);
    }
  where
    alike : (b : Axis) → Alike (sheet_axis p.sheet b) (sheet_axis q.sheet b)
    alike Column = subst (λ (w : PanelView). Alike (sheet_axis p.sheet Column) w.columns) (sym h.panel) (emptied-alike a (sheet_of p.sheet).view h.invalid Column)
    alike Row = subst (λ (w : PanelView). Alike (sheet_axis p.sheet Row) w.rows) (sym h.panel) (emptied-alike a (sheet_of p.sheet).view h.invalid Row)

    filled-alike : (b : Axis) (items : List ℕ) (run : List GridTrack)
        → run_after (tracks_after (sheet_axis p.sheet b)) (components_of (counted (sheet_axis p.sheet b))) (map sizes_of (sheet_axis p.sheet b).spares) items run
        ≡ run_after (tracks_after (sheet_axis q.sheet b)) (components_of (counted (sheet_axis q.sheet b))) (map sizes_of (sheet_axis q.sheet b).spares) items run
    filled-alike b items run = let s = alike b in rw (tracks-alike _ _ s, s.template, s.spares)
