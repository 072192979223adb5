-- The answers of a trial, from those of an entry on copies. Assumes nothing.
use Prim.Native.Nat.{ℕ}
use mathlib.Core.Path.{◌≡◌, refl, sym, ap, ap₂, subst, ◌∙◌}
use mathlib.Core.List.{List}
use lib.ListN.{take}
use Rattle.std.specs.Prelude.{Result, Ok, Err}
use Rattle.coordinates.specs.declared.refusal.Fault.{Fault}
use Rattle.coordinates.specs.Refusals.{refusal_of, refused_by}
use Rattle.name_rules.specs.Css.{Bytes}
use Rattle.panel_tables.specs.declared.Panel.{Panel}
use Rattle.panel_tables.specs.Regions.{area_words_in, placement_words_in, area_bytes_in, placement_bytes_in}
use Rattle.sheet_rules.specs.declared.LineFault.{LineFault}
use Rattle.panel_rules.specs.Calls.{NameTables, EnteredName, enter_name, name_tables_in}
use Rattle.panel_hits.specs.Settled.{Lent, lent_in}
use Rattle.panel_trial.specs.declared.Trial.{Trial}
use Rattle.panel_trial.specs.declared.TrialCounts.{TrialCounts}
use Rattle.panel_trial.specs.Trial.{AnswerRuns, PanelAnswered, tried_entry, with_tables, TrialAnswered, refused, entered}
use Rattle.panel_trial.specs.Stores.{reached_tables, reached_lent, Copied}
use Rattle.panel_trial.proofs.Reach.{reached_entry, enter_reached}
use Rattle.panel_trial.proofs.Answers.{panel-answered}

-- what an entry call answers, with the panel, the words and the stores after it
abbrev pub entered_on : Result (Unit {0}) Fault → Panel → List ℕ → List ℕ → List ℕ → EnteredName
entered_on outcome q words columns rows = record { answer = record { refusal = refusal_of (refused_by outcome); panel = q }; tables = name_tables_in words columns rows }

-- what is lent, the words and the stores changed
lent-entered : (words words' bytes columns rows column_store row_store : List ℕ) (t : NameTables) → name_tables_in words' columns rows ≡ reached_tables t
    → (area_words_in words' ≡ area_words_in words) × (placement_words_in words' ≡ placement_words_in words) → lent_in words' bytes columns rows ≡ reached_lent (with_tables (lent_in words bytes column_store row_store) t)
lent-entered words words' bytes columns rows column_store row_store t e f =
    ap (λ (n : NameTables). record { names = n; areas = record { words = area_words_in words'; bytes = area_bytes_in bytes }; placements = record { words = placement_words_in words'; bytes = placement_bytes_in bytes } }) e
    ∙ ap₂ (λ (a p : List ℕ). record { names = reached_tables t; areas = record { words = a; bytes = area_bytes_in bytes }; placements = record { words = p; bytes = placement_bytes_in bytes } }) f.0 f.1

module _ (p : Panel) (words bytes column_store row_store : List ℕ) (t : Trial) (name : Bytes) where
  abbrev lent : Lent
  lent = lent_in words bytes column_store row_store

  abbrev whole : EnteredName
  whole = tried_entry p lent t name

  module _ (columns rows : List ℕ) (column_bytes row_bytes : ℕ) (c : Copied column_store columns column_bytes) (d : Copied row_store rows row_bytes)
      (outcome : Result (Unit {0}) Fault) (q : Panel) (words' columns' rows' : List ℕ)
      (made : entered_on outcome q words' columns' rows' ≡ enter_name p (name_tables_in words (take column_bytes columns) (take row_bytes rows)) t.axis t.line name) where
    -- the entry on the copies is that on the stores, as far as an entry reaches
    made-whole : entered_on outcome q words' columns' rows' ≡ reached_entry whole
    made-whole =
        made
        ∙ ap₂ (λ (x y : List ℕ). enter_name p (name_tables_in words x y) t.axis t.line name) c.same d.same
        ∙ enter_reached p (name_tables_in words column_store row_store) t.axis t.line name

    refusal : whole.answer.refusal ≡ refusal_of (refused_by outcome)
    refusal = ap (λ (x : EnteredName). x.answer.refusal) (sym made-whole)

    pub trial-refused : (fault : Fault) → outcome ≡ Err fault → (runs : AnswerRuns) → TrialAnswered p lent t name runs runs (Err (record { fault = fault; line = 0 }))
    trial-refused fault e runs = refused fault (refusal ∙ ap (λ (x : Result (Unit {0}) Fault). refusal_of (refused_by x)) e) refl refl

    pub trial-entered : outcome ≡ Ok tt → (area_words_in words' ≡ area_words_in words) × (placement_words_in words' ≡ placement_words_in words)
        → (read_columns read_rows : List ℕ) → read_columns ≡ columns' → read_rows ≡ rows' → (before after : AnswerRuns) (r : Result TrialCounts LineFault)
        → PanelAnswered q.grid (lent_in words' bytes read_columns read_rows) t.packing before after r → TrialAnswered p lent t name before after r
    trial-entered none others read_columns read_rows f g before after r answer =
        let l : lent_in words' bytes read_columns read_rows ≡ reached_lent (with_tables lent whole.tables) =
        ap₂ (lent_in words' bytes) f g ∙ lent-entered words words' bytes columns' rows' column_store row_store whole.tables (ap (λ (x : EnteredName). x.tables) made-whole) others in
        let a : PanelAnswered q.grid (reached_lent (with_tables lent whole.tables)) t.packing before after r = subst (λ (x : Lent). PanelAnswered q.grid x t.packing before after r) l answer in
        let b : PanelAnswered q.grid (with_tables lent whole.tables) t.packing before after r = panel-answered q.grid (with_tables lent whole.tables) t.packing before after r a in
        entered (refusal ∙ ap (λ (x : Result (Unit {0}) Fault). refusal_of (refused_by x)) none)
        (subst (λ (x : Panel). PanelAnswered x.grid (with_tables lent whole.tables) t.packing before after r) (ap (λ (x : EnteredName). x.answer.panel) made-whole) b)
