-- What the answers of the cursor mean, and that those on the columns don't turn on the rows. Assumes nothing.
use Prim.Native.Nat.{ℕ, zero, suc, ◌≤◌, ◌<◌}
use native.Mathlib.Omega.{arith}
use mathlib.Core.Path.{◌≡◌, refl, sym, ap, ap₂, subst, ◌∙◌}
use mathlib.Core.Logic.{⊎_elim}
use mathlib.Core.Bool.{Bool, true, false, cond, not, ◌&&◌}
use mathlib.Core.List.{List, ◌++◌, append-nil}
use lib.Dec.{eqb, ltb}
use lib.ListN.{length, replicate, drop_of_length-le, length-replicate}
use borrow.Author.Tests.{ne_eqb, lt-ltb}
use Rattle.std.proofs.lemmas.Bool.{cases_lt}
use Rattle.coordinates.specs.declared.axis.Axis.TheVariants.{Column}
use Rattle.sizing.specs.Ranges.{length_in_range}
use Rattle.axis_tables.specs.Reads.{inner_in}
use Rattle.track_rules.specs.declared.GridTrack.{GridTrack}
use Rattle.track_rules.specs.Tracks.{zero_grid_track}
use Rattle.track_rules.specs.Records.{tracks_in, records_in}
use Rattle.track_run.specs.Run.{run_after}
use Rattle.track_run.proofs.Filling.{run-accepted}
use Rattle.axis_tables.specs.declared.AxisGrid.{AxisGrid}
use Rattle.axis_tables.specs.declared.AxisState.{AxisState}
use Rattle.panel_tables.specs.Axes.{grid_in}
use Rattle.panel_rules.specs.Calls.{axis_tracks, template_in, spares_in, words_in}
use Rattle.panel_rules.specs.Runs.{names_of}
use Rattle.panel_rules.specs.Alone.{Run, held_by, DifferInRows}
use Rattle.panel_rules.proofs.AxisBack.{state-unrefused}
use Rattle.panel_rules.proofs.ColumnsAlone.{columns_alone}
use Rattle.line_positions.specs.Positions.{all_definite, nearest_of, lines_before, lines_up_to, SomeIndefinite}
use Rattle.line_positions.proofs.Nearest.{nearest-least, nearest_unique}
use Rattle.line_positions.proofs.Within.{within-interval}
use Rattle.line_positions.proofs.Lines.{lines_lie, indefinite-exactly}
use Rattle.panel_positions.specs.declared.LineAnswer.{LineAnswer}
use Rattle.panel_positions.specs.Cursor.{LinesWithin}
use Rattle.panel_positions.specs.Cursor.{records_on, pixels, forged, cursor_refusal, grid_line_at, line_for, lines_for, nearest_on, lines_on}
use Rattle.panel_positions.specs.Steps.{older_refusal}
use Rattle.panel_positions.specs.Theorem.{CursorTheorem, SameCursor}
use Rattle.panel_positions.proofs.Answers.{older-first}
use Rattle.panel_positions.proofs.Ranges.{axis_in_range}

module _ (g : AxisGrid) (words items : List ℕ) where
  answered : (cursor : ℕ) → cursor_refusal g words items cursor cursor ≡ 0 → (k : ℕ) → nearest_of (inner_in g.space) (records_on g words items) (pixels cursor) ≡ k
      → nearest_on g words items cursor ≡ record { number = 0; line = grid_line_at g k }
  unfolding nearest_on
  answered cursor z k e = ap₂ (λ (n j : ℕ). line_for g n j) z e

  counted : (low high : ℕ) → cursor_refusal g words items low high ≡ 0
      → lines_on g words items low high
      ≡ record { number = 0; below = lines_before (inner_in g.space) (records_on g words items) (pixels low); upto = lines_up_to (inner_in g.space) (records_on g words items) (pixels high) }
  unfolding lines_on
  counted low high z = ap (λ (n : ℕ). lines_for n (lines_before (inner_in g.space) (records_on g words items) (pixels low)) (lines_up_to (inner_in g.space) (records_on g words items) (pixels high))) z

  abbrev whole : Bool
  whole = all_definite (inner_in g.space) (records_on g words items)

  found : (o : ℕ) (t : Bool) → cond (eqb o 0) (cond t 0 11) o ≡ 11 → (o ≡ 11 → ⊥) → (o ≡ 0) × (t ≡ false)
  found zero true h n = absurd (omega arith)
  found zero false h n = (refl, refl)
  found (suc o) t h n = absurd (n (rw (ne_eqb (suc o) 0 (λ e. omega arith)) at h))

  -- the older checks have other numbers
  older-numbers : (low high : ℕ) → older_refusal g (length items) low high ≡ 11 → ⊥
  unfolding older_refusal
  older-numbers low high h = go (not (length_in_range low && length_in_range high)) (forged g) (ltb (length items) (tracks_in (axis_tracks g))) h
    where
      go : (a b c : Bool) → ◌≡◌ {A = ℕ} (cond a 3 (cond b 4 (cond c 10 0))) 11 → ⊥
      go true b c h = omega arith
      go false true c h = omega arith
      go false false true h = omega arith
      go false false false h = omega arith

  unmeasured : (low high : ℕ) → cursor_refusal g words items low high ≡ 11 → (older_refusal g (length items) low high ≡ 0) × SomeIndefinite (inner_in g.space) (records_on g words items) zero_grid_track
  unmeasured low high e =
      let f = found (older_refusal g (length items) low high) whole (sym (older-first g words items low high) ∙ e) (older-numbers low high) in
      (f.0, (indefinite-exactly (inner_in g.space) zero_grid_track (records_on g words items)).0 f.1)

  refused : (low high : ℕ) → older_refusal g (length items) low high ≡ 0 → SomeIndefinite (inner_in g.space) (records_on g words items) zero_grid_track → cursor_refusal g words items low high ≡ 11
  refused low high o s =
      older-first g words items low high
      ∙ ap₂ (λ (n : ℕ) (t : Bool). cond (eqb n 0) (cond t 0 11) n) o ((indefinite-exactly (inner_in g.space) zero_grid_track (records_on g words items)).1 s)

  pub cursor-theorem : CursorTheorem g words items
  cursor-theorem =
      record {
        positions = lines_lie (inner_in g.space) (records_on g words items);
        nearest = λ cursor z. (nearest_of (inner_in g.space) (records_on g words items) (pixels cursor), nearest-least (inner_in g.space) (records_on g words items) (axis_in_range g words items) cursor, answered cursor z _ refl);
        only = λ cursor z k n. answered cursor z k (nearest_unique (inner_in g.space) (records_on g words items) (axis_in_range g words items) cursor _ k (nearest-least (inner_in g.space) (records_on g words items) (axis_in_range g words items) cursor) n);
        within = λ low high z k h. rw (counted low high z) (within-interval (inner_in g.space) (records_on g words items) (axis_in_range g words items) low high k h);
        unmeasured = unmeasured;
        refused = refused;
      }

-- ---- the columns of two runs

module _ (items : List ℕ) where
  -- a lent run is filled with the records
  filled : (g : AxisGrid) (words : List ℕ) (n : ℕ) → n ≡ records_in (axis_tracks g) → tracks_in (axis_tracks g) ≤ length items
      → run_after (axis_tracks g) (template_in g words) (spares_in g words) items (replicate n zero_grid_track) ≡ records_on g words items
  filled g words n e h =
      let run = replicate n zero_grid_track in
      let l : length run ≡ n = length-replicate n zero_grid_track in
      let k : length run ≤ records_in (axis_tracks g) = omega arith in
      run-accepted (axis_tracks g) (template_in g words) (spares_in g words) items run (state-unrefused g) (omega arith) h
      ∙ ap (λ (rest : List GridTrack). records_on g words items ++ rest) (drop_of_length-le run k) ∙ append-nil (records_on g words items)

  module _ (g : AxisGrid) (words other : List ℕ) (same : tracks_in (axis_tracks g) ≤ length items → records_on g words items ≡ records_on g other items) where
    abbrev refusal_by : ℕ → ℕ → Bool → List GridTrack → ℕ
    refusal_by low high short records = cond (not (length_in_range low && length_in_range high)) 3 (cond (forged g) 4 (cond short 10 (cond (all_definite (inner_in g.space) records) 0 11)))

    abbrev nearest_by : ℕ → Bool → List GridTrack → LineAnswer
    nearest_by cursor short records = line_for g (refusal_by cursor cursor short records) (nearest_of (inner_in g.space) records (pixels cursor))

    abbrev lines_by : ℕ → ℕ → Bool → List GridTrack → LinesWithin
    lines_by low high short records = lines_for (refusal_by low high short records) (lines_before (inner_in g.space) records (pixels low)) (lines_up_to (inner_in g.space) records (pixels high))

    -- where the item bytes are too few, the records play no part
    short-nearest : (a b : Bool) (x y : ℕ) → line_for g (cond a 3 (cond b 4 10)) x ≡ line_for g (cond a 3 (cond b 4 10)) y
    short-nearest true b x y = refl
    short-nearest false true x y = refl
    short-nearest false false x y = refl

    short-lines : (a b : Bool) (x y v w : ℕ) → lines_for (cond a 3 (cond b 4 10)) x v ≡ lines_for (cond a 3 (cond b 4 10)) y w
    short-lines true b x y v w = refl
    short-lines false true x y v w = refl
    short-lines false false x y v w = refl

    nearest_same : (cursor : ℕ) → nearest_on g words items cursor ≡ nearest_on g other items cursor
    unfolding nearest_on cursor_refusal
    nearest_same cursor =
        ⊎_elim
        (λ (h : length items < tracks_in (axis_tracks g)).
        let s : ltb (length items) (tracks_in (axis_tracks g)) ≡ true = lt-ltb _ _ h in
        ap (λ (t : Bool). nearest_by cursor t (records_on g words items)) s
        ∙ short-nearest (not (length_in_range cursor && length_in_range cursor)) (forged g) _ _
        ∙ ap (λ (t : Bool). nearest_by cursor t (records_on g other items)) (sym s))
        (λ (h : tracks_in (axis_tracks g) ≤ length items). ap (nearest_by cursor (ltb (length items) (tracks_in (axis_tracks g)))) (same h))
        (cases_lt (length items) (tracks_in (axis_tracks g)))

    lines_same : (low high : ℕ) → lines_on g words items low high ≡ lines_on g other items low high
    unfolding lines_on cursor_refusal
    lines_same low high =
        ⊎_elim
        (λ (h : length items < tracks_in (axis_tracks g)).
        let s : ltb (length items) (tracks_in (axis_tracks g)) ≡ true = lt-ltb _ _ h in
        ap (λ (t : Bool). lines_by low high t (records_on g words items)) s
        ∙ short-lines (not (length_in_range low && length_in_range high)) (forged g) _ _ _ _
        ∙ ap (λ (t : Bool). lines_by low high t (records_on g other items)) (sym s))
        (λ (h : tracks_in (axis_tracks g) ≤ length items). ap (lines_by low high (ltb (length items) (tracks_in (axis_tracks g)))) (same h))
        (cases_lt (length items) (tracks_in (axis_tracks g)))

module _ (p q : Run) (d : DifferInRows p q) where
  abbrev ours : AxisGrid
  ours = grid_in (held_by p).panel.grid Column

  abbrev theirs : AxisGrid
  theirs = grid_in (held_by q).panel.grid Column

  abbrev our_words : List ℕ
  our_words = words_in (names_of (held_by p).tables) Column

  abbrev their_words : List ℕ
  their_words = words_in (names_of (held_by q).tables) Column

  grid-same : ours ≡ theirs
  grid-same = ap (λ (s : AxisState). s.grid) (columns_alone p q d).state

  records-same : (items : List ℕ) → tracks_in (axis_tracks ours) ≤ length items → records_on ours our_words items ≡ records_on ours their_words items
  records-same items h =
      let n = records_in (axis_tracks ours) in
      let t : tracks_in (axis_tracks theirs) ≤ length items = subst (λ (g : AxisGrid). tracks_in (axis_tracks g) ≤ length items) grid-same h in
      let e : n ≡ records_in (axis_tracks theirs) = ap (λ (g : AxisGrid). records_in (axis_tracks g)) grid-same in
      sym (filled items ours our_words n refl h) ∙ (columns_alone p q d).lent items (replicate n zero_grid_track) ∙ filled items theirs their_words n e t
      ∙ ap (λ (g : AxisGrid). records_on g their_words items) (sym grid-same)

  -- beside the third demand: the cursor's answers on the columns are the same in runs that differ in rows alone
  pub columns-cursor : SameCursor p q
  columns-cursor =
      record {
        nearest = λ items cursor. nearest_same items ours our_words their_words (records-same items) cursor ∙ ap (λ (g : AxisGrid). nearest_on g their_words items cursor) grid-same;
        lines = λ items low high. lines_same items ours our_words their_words (records-same items) low high ∙ ap (λ (g : AxisGrid). lines_on g their_words items low high) grid-same;
      }
