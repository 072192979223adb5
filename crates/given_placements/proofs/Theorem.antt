-- Placements by argument after an accepted sheet and any entry calls. Assumes nothing.
use Prim.Native.Nat.{ℕ, suc, ◌+◌, ◌-◌, ◌≤◌, ◌<◌, min}
use mathlib.Core.Path.{◌≡◌, refl, sym, ap, ◌∙◌}
use mathlib.Core.Bool.{Bool, true, false, cond, ◌||◌, false≢true}
use mathlib.Core.List.{List, [], ◌∷◌, ◌++◌, append_assoc}
use native.Mathlib.Omega.{arith}
use native.Mathlib.Nat.{add-zero}
use borrow.Author.Tests.{eqb-true, eqb-false, eq-eqb, ne_eqb, lt-leb, le-ltb, ltb-false}
use lib.Dec.{eqb, ltb}
use lib.IntN.{ℤ}
use lib.ListN.{length, get_or, length-append}
use lib.Seq.{sets, get_or-append-add}
use Rattle.coordinates.specs.declared.axis.Axis.{Axis}
use Rattle.coordinates.specs.declared.axis.Axis.TheVariants.{Column, Row}
use Rattle.name_rules.specs.Css.{Bytes, Entry, AxisNames}
use Rattle.name_rules.specs.Rule.{named?, resolve, held_ends}
use Rattle.axis_tables.proofs.Runs.{All}
use Rattle.panel_tables.specs.declared.Grid.{Grid}
use Rattle.panel_tables.specs.View.{Placement, PanelView, no_placement, with_item, with_placement}
use Rattle.panel_tables.specs.Axes.{view_in}
use Rattle.panel_tables.specs.Written.{placement_words, placement_store}
use Rattle.panel_tables.proofs.Fits.{GoodPlacement, FitsPanel}
use Rattle.sheet_rules.specs.Sheet.{sheet_of, end_fault}
use Rattle.sheet_rules.specs.Panels.{Tables, sized_panel, sized_state, tables_of}
use Rattle.sheet_rules.specs.Read.{short_stores}
use Rattle.sheet_rules.proofs.Fits.{sheet_fits}
use Rattle.library_numbers.specs.Answers.{counted, placement_numbers}
use Rattle.panel_rules.specs.Placing.{PlacementAnswer, resolve_placement}
use Rattle.panel_rules.specs.Calls.{NameTables, NamedWords, shorter_store}
use Rattle.panel_rules.specs.Runs.{Held, Call, Accepted, run_of, names_of, areas_of, placement_of}
use Rattle.panel_rules.specs.Views.{css_end, names_after as line_names, answer_at, placement_after, held_after, state_after, both}
use Rattle.panel_rules.specs.Ranges.{PlacementRange, PanelRange, AxisRange, spanned}
use Rattle.panel_rules.specs.Added.{added}
use Rattle.panel_rules.proofs.Fit.{EntriesFit}
use Rattle.panel_rules.proofs.AxisEntry.{length_store}
use Rattle.panel_rules.proofs.Ends.{sheet_end}
use Rattle.panel_rules.proofs.Sheets.{accepted_sheet}
use Rattle.panel_rules.proofs.Held.{added_fit, run-held}
use Rattle.panel_rules.proofs.Invariants.{sheet_range}
use Rattle.panel_rules.proofs.Run.{placement-answer}
use Rattle.panel_rules.proofs.Answers as Answers
use Rattle.panel_resolving.specs.Placements.{numbers_of, numbers_count, numbers_refusal, run_numbers, placements_written}
use Rattle.given_placements.specs.declared.GivenPlacement.{GivenPlacement}
use Rattle.given_placements.specs.Given.{fault_given, names_after, put_all, GivenTables, GivenAnswer, GivenWritten, call_fault, refused_given, given_grid, run_given, given_beside, given_written}
use Rattle.given_placements.specs.Theorem.{placement_given, placements_given, first_refused, numbers_after, given_after, GivenTheorem}
use Rattle.given_placements.proofs.Ends.{placement-good}
use Rattle.given_placements.proofs.Runs.{call-few}
use Rattle.given_placements.proofs.Puts.{put-started, rest-placed, rest-refused-first}

-- ---- the placements
pub given-length : (names : Bytes) (gs : List GivenPlacement) → length (placements_given names gs) ≡ length gs
unfolding placements_given
given-length names [] = refl
given-length names (g ∷ gs) = omega (arith, given-length (names_after g names) gs)

-- those of which none is refused fit, and are in their ranges
given-good : (names : Bytes) (i : ℕ) (gs : List GivenPlacement) → (first_refused names i gs).number ≡ 0 → All GoodPlacement (placements_given names gs) × All PlacementRange (placements_given names gs)
unfolding placements_given first_refused
given-good names i [] z = (tt, tt)
given-good names i (g ∷ gs) z = go (eqb (fault_given g names) 0) refl z (given-good (names_after g names) (suc i) gs)
  where
    p : Placement
    p = placement_given g names

    rest : GivenAnswer
    rest = first_refused (names_after g names) (suc i) gs

    go : (b : Bool) → eqb (fault_given g names) 0 ≡ b → (cond b rest (record { number = fault_given g names; index = i; count = 0 })).number ≡ 0
        → (rest.number ≡ 0 → All GoodPlacement (placements_given (names_after g names) gs) × All PlacementRange (placements_given (names_after g names) gs))
        → (GoodPlacement p × All GoodPlacement (placements_given (names_after g names) gs)) × (PlacementRange p × All PlacementRange (placements_given (names_after g names) gs))
    go true e k others =
        let here = placement-good g names (eqb-true (fault_given g names) 0 e) in
        ((here.0, (others k).0), (here.1, (others k).1))
    go false e k others = absurd (eqb-false (fault_given g names) 0 e k)

-- ---- the answer for a placement is no matter of the other placements
module _ (v : PanelView) (es : Axis → List Entry) where
  view-alike : (ps : List Placement) (cs : List ℕ) (a : Axis) → view_in (with_item v ps cs) a ≡ view_in v a
  view-alike ps cs Column = refl
  view-alike ps cs Row = refl

  names-alike : (ps : List Placement) (cs : List ℕ) (a : Axis) → line_names (with_item v ps cs) a (es a) ≡ line_names v a (es a)
  names-alike ps cs a = rw (view-alike ps cs a) refl

  abbrev answer_for : AxisNames → Placement → PlacementAnswer
  answer_for x p = answer_at p (resolve x.explicit (named? x) (css_end p.start) (css_end p.end)) (held_ends x.explicit (named? x) (css_end p.start) (css_end p.end))

  answer-here : (qs rs : List Placement) (cs : List ℕ) (p : Placement)
      → placement_after (with_item v (qs ++ (p ∷ rs)) cs) es (length qs) ≡ answer_for (line_names v p.axis (es p.axis)) p
  answer-here qs rs cs p =
      let all : List Placement = qs ++ (p ∷ rs) in
      let here : get_or all (length qs) no_placement ≡ p =
      ap (λ (k : ℕ). get_or all k no_placement) (sym (add-zero (length qs))) ∙ get_or-append-add qs (p ∷ rs) 0 no_placement in
      placement-answer (with_item v all cs) es (length qs) (omega (arith, length-append qs (p ∷ rs)))
      ∙ ap (λ (q : Placement). answer_for (line_names (with_item v all cs) q.axis (es q.axis)) q) here
      ∙ ap (λ (x : AxisNames). answer_for x p) (names-alike all cs p.axis)

  -- as the last line of the panel
  pub answer-last : (qs rs : List Placement) (p : Placement) → placement_after (with_item v (qs ++ (p ∷ rs)) []) es (length qs) ≡ placement_after (with_placement v p) es (length v.placements)
  answer-last qs rs p = answer-here qs rs [] p ∙ sym (answer-here v.placements [] v.cells p)

-- ---- the run of tables that hold placements
run-whole : (g : Grid) (t : NameTables) (areas placements : NamedWords) (lent : List ℤ) → 0 < g.placements → g.placements ≤ 512 → 32768 ≤ shorter_store t
    → placements_written g t areas placements 0 lent ≡ record { answer = counted g.placements; numbers = sets lent 0 (run_numbers g t areas placements 0 g.placements) }
unfolding placements_written numbers_refusal numbers_count
run-whole g t areas placements lent some few long =
    let n : min 512 (g.placements - 0) ≡ g.placements = omega arith in
    rw (lt-leb g.placements 0 some, le-ltb (shorter_store t) 32768 long, n) refl

-- neither store is short
long_stores : (a b : ℕ) → (ltb a 32768 || ltb b 32768) ≡ false → (32768 ≤ a) × (32768 ≤ b)
long_stores a b = go (ltb a 32768) (ltb b 32768) refl refl
  where
    go : (t u : Bool) → ltb a 32768 ≡ t → ltb b 32768 ≡ u → (t || u) ≡ false → (32768 ≤ a) × (32768 ≤ b)
    go true u p q e = absurd (false≢true (sym e))
    go false true p q e = absurd (false≢true (sym e))
    go false false p q e = (ltb-false a 32768 p, ltb-false b 32768 q)

module _ (v : PanelView) (f : FitsPanel v) (range : PanelRange v) (ok : end_fault v ≡ 0) (t : Tables) (long : short_stores t ≡ false)
    (columns rows : List Entry) (c : EntriesFit v.columns columns) (r : EntriesFit v.rows rows) where
  abbrev h : Held
  h = held_after v t columns rows

  abbrev es : Axis → List Entry
  es = both columns rows

  stores-long : 32768 ≤ shorter_store (names_of h.tables)
  unfolding held_after
  stores-long =
      let l = long_stores (length t.column_store) (length t.row_store) long in
      omega (arith, l.0, l.1, length_store v.columns columns t.column_store (omega (arith, c.bytes, l.0)), length_store v.rows rows t.row_store (omega (arith, r.bytes, l.1)))

  -- the panel with other placements
  module _ (ps : List Placement) (few : length ps ≤ 256) (good : All GoodPlacement ps) (ranged : All PlacementRange ps) where
    abbrev w : PanelView
    w = with_item v ps []

    fits : FitsPanel w
    fits = record { columns = f.columns; rows = f.rows; areas = f.areas; drawn = f.drawn; items = omega arith; cells = omega arith; placed = good; lines = tt }

    axis-ranged : (a : Axis) → AxisRange (spanned a w) (view_in w a)
    axis-ranged Column = range.axes Column
    axis-ranged Row = range.axes Row

    ranges : PanelRange w
    ranges = record { axes = axis-ranged; placements = ranged; even = range.even }

    ended : end_fault w ≡ 0
    unfolding end_fault
    ended = ok

    abbrev grid : Grid
    grid = given_grid h.panel.grid (length ps)

    abbrev table : NamedWords
    table = record { words = placement_words ps []; bytes = placement_store ps }

    -- its tables are those of the panel, but for the placements
    held-alike : (i : ℕ) → resolve_placement grid (names_of h.tables) (areas_of h.tables) table i ≡ placement_of (held_after w t columns rows) i
    unfolding held_after sized_panel sized_state state_after tables_of
    held-alike i = refl

    resolved : (i : ℕ) → resolve_placement grid (names_of h.tables) (areas_of h.tables) table i ≡ placement_after w es i
    resolved i = held-alike i ∙ Answers.placement-after w fits ranges ended t long columns rows c r i

    numbers-run : (rs qs : List Placement) → ps ≡ qs ++ rs → run_numbers grid (names_of h.tables) (areas_of h.tables) table (length qs) (length rs) ≡ numbers_after v es rs
    unfolding run_numbers numbers_after
    numbers-run [] qs e = refl
    numbers-run (p ∷ rs) qs e =
        let one : resolve_placement grid (names_of h.tables) (areas_of h.tables) table (length qs) ≡ placement_after (with_placement v p) es (length v.placements) =
        resolved (length qs) ∙ ap (λ (l : List Placement). placement_after (with_item v l []) es (length qs)) e ∙ answer-last v es qs rs p in
        let q : List Placement = p ∷ [] in
        let more : run_numbers grid (names_of h.tables) (areas_of h.tables) table (length qs + 1) (length rs) ≡ numbers_after v es rs =
        ap (λ (k : ℕ). run_numbers grid (names_of h.tables) (areas_of h.tables) table k (length rs)) (sym (length-append qs q))
        ∙ numbers-run rs (qs ++ q) (e ∙ sym (append_assoc qs q rs)) in
        ap (λ (a : PlacementAnswer). numbers_of (placement_numbers a) ++ run_numbers grid (names_of h.tables) (areas_of h.tables) table (length qs + 1) (length rs)) one
        ∙ ap (λ (l : List ℤ). numbers_of (placement_numbers (placement_after (with_placement v p) es (length v.placements))) ++ l) more

    pub run-placed : (lent : List ℤ) → 0 < length ps
        → placements_written grid (names_of h.tables) (areas_of h.tables) table 0 lent ≡ record { answer = counted (length ps); numbers = sets lent 0 (numbers_after v es ps) }
    run-placed lent some =
        run-whole grid (names_of h.tables) (areas_of h.tables) table lent some (omega arith) stores-long
        ∙ ap (λ (l : List ℤ). record { answer = counted (length ps); numbers = sets lent 0 l }) (numbers-run ps [] refl)

  -- ---- what is answered
  module _ (gs : List GivenPlacement) (names : Bytes) (lent : List ℤ) (whole : call_fault names gs ≡ 0) where
    abbrev answer : GivenWritten
    answer = given_written h.panel.grid (names_of h.tables) (areas_of h.tables) gs names lent

    few-given : length gs ≤ 256
    few-given = call-few names gs whole

    abbrev ps : List Placement
    ps = placements_given names gs

    abbrev all_placed : GivenWritten
    all_placed = record { answer = record { number = 0; index = 0; count = length gs }; numbers = sets lent 0 (numbers_after v es ps) }

    tables-placed : (first_refused names 0 gs).number ≡ 0
        → put_all names gs ≡ record { number = 0; index = 0; placements = length ps; words = placement_words ps []; bytes = placement_store ps }
    tables-placed z = put-started names gs ∙ rest-placed gs [] names 0 tt (omega (arith, few-given)) z

    beside-placed : (first_refused names 0 gs).number ≡ 0 → 0 < length gs
        → given_beside h.panel.grid (names_of h.tables) (areas_of h.tables) (put_all names gs) lent ≡ all_placed
    beside-placed z some =
        let k = given-good names 0 gs z in
        let n = given-length names gs in
        ap (λ (x : GivenTables). given_beside h.panel.grid (names_of h.tables) (areas_of h.tables) x lent) (tables-placed z)
        ∙ ap run_given (run-placed ps (omega (arith, n, few-given)) k.0 k.1 lent (omega (arith, n)))
        ∙ ap (λ (m : ℕ). record { answer = record { number = 0; index = 0; count = m }; numbers = sets lent 0 (numbers_after v es ps) }) n

    beside-refused : ((first_refused names 0 gs).number ≡ 0 → ⊥)
        → given_beside h.panel.grid (names_of h.tables) (areas_of h.tables) (put_all names gs) lent ≡ record { answer = first_refused names 0 gs; numbers = lent }
    beside-refused z =
        let x = put_all names gs in
        let e : record { number = x.number; index = x.index; count = 0 } ≡ first_refused names 0 gs =
        ap (λ (y : GivenTables). record { number = y.number; index = y.index; count = 0 }) (put-started names gs) ∙ rest-refused-first gs [] names 0 tt (omega (arith, few-given)) z in
        rw (ne_eqb x.number 0 (λ k. z (sym (ap (λ (a : GivenAnswer). a.number) e) ∙ k))) (ap (λ (a : GivenAnswer). record { answer = a; numbers = lent }) e)

    answer-beside : 0 < length gs → answer ≡ given_beside h.panel.grid (names_of h.tables) (areas_of h.tables) (put_all names gs) lent
    unfolding given_written
    answer-beside some = rw (eq-eqb (call_fault names gs) 0 whole, ne_eqb (length gs) 0 (λ k. omega (arith, k, some))) refl

  -- none given are none answered
  answer-placed : (gs : List GivenPlacement) (names : Bytes) (lent : List ℤ) (whole : call_fault names gs ≡ 0) → (first_refused names 0 gs).number ≡ 0
      → answer gs names lent whole ≡ all_placed gs names lent whole
  unfolding given_written numbers_after placements_given
  answer-placed [] names lent whole z = rw (eq-eqb (call_fault names []) 0 whole) refl
  answer-placed (g ∷ gs) names lent whole z = answer-beside (g ∷ gs) names lent whole (omega arith) ∙ beside-placed (g ∷ gs) names lent whole z (omega arith)

  answer-refused : (gs : List GivenPlacement) (names : Bytes) (lent : List ℤ) (whole : call_fault names gs ≡ 0) → ((first_refused names 0 gs).number ≡ 0 → ⊥)
      → answer gs names lent whole ≡ record { answer = first_refused names 0 gs; numbers = lent }
  unfolding first_refused
  answer-refused [] names lent whole z = absurd (z refl)
  answer-refused (g ∷ gs) names lent whole z = answer-beside (g ∷ gs) names lent whole (omega arith) ∙ beside-refused (g ∷ gs) names lent whole z

-- ---- after a run
call-refused : (g : Grid) (t : NameTables) (areas : NamedWords) (gs : List GivenPlacement) (names : Bytes) (lent : List ℤ) → (call_fault names gs ≡ 0 → ⊥)
    → given_written g t areas gs names lent ≡ refused_given (call_fault names gs) 0 lent
unfolding given_written
call-refused g t areas gs names lent n = rw (ne_eqb (call_fault names gs) 0 n) refl

module _ (s : List ℕ) (t : Tables) (calls : List Call) (ok : Accepted s t) (gs : List GivenPlacement) (names : Bytes) (lent : List ℤ) where
  abbrev after : Held → GivenWritten
  after h = given_written h.panel.grid (names_of h.tables) (areas_of h.tables) gs names lent

  closed : given_after s t calls gs names lent ≡ after (held_after (sheet_of s).view t (added s Column calls) (added s Row calls))
  closed = ap after (run-held s t calls ok)

  pub given-theorem : GivenTheorem s t calls gs names lent
  given-theorem =
      let k = accepted_sheet s t ok in
      let c = added_fit s k.0 Column calls in
      let r = added_fit s k.0 Row calls in
      record {
        placed = λ whole z. closed ∙ answer-placed (sheet_of s).view (sheet_fits s) (sheet_range s) (sheet_end s k.0) t k.1 (added s Column calls) (added s Row calls) c r gs names lent whole z;
        refused = λ whole z. closed ∙ answer-refused (sheet_of s).view (sheet_fits s) (sheet_range s) (sheet_end s k.0) t k.1 (added s Column calls) (added s Row calls) c r gs names lent whole z;
        call = λ n. call-refused (run_of s t calls).panel.grid (names_of (run_of s t calls).tables) (areas_of (run_of s t calls).tables) gs names lent n;
      }
