-- One line more of a run, and its end. Assumes nothing.
use Rattle.std.specs.Prelude.{Option, Some, None, Result, Ok, Err}
use Rattle.std.specs.Option.{option_or}
use Rattle.std.specs.Result.{result_unwrap_or}
use Rattle.sheet_forms.specs.Faults.{first_of}
use Rattle.sheet_forms.proofs.Together.{fault_number}
use Rattle.axis_tables.specs.declared.AxisState.{AxisState}
use Rattle.panel_tables.specs.Readings.{panel_reading}
use Rattle.panel_tables.specs.Axes.{state_in, with_state}
use Rattle.sheet_end.specs.End.{answered_end}
use Prim.Native.Nat.{ℕ, zero, suc, ◌+◌, ◌≤◌, ◌<◌, min}
use mathlib.Core.Path.{◌≡◌, refl, sym, ap, ◌∙◌}
use mathlib.Core.List.{List, [], ◌∷◌}
use mathlib.Core.Bool.{Bool, true, false, cond}
use lib.Dec.{eqb}
use lib.ListN.{length}
use native.Mathlib.Omega.{arith}
use borrow.Author.Tests.{eq-eqb, ne_eqb, eqb-true, eqb-false}
use Rattle.text.specs.Split.{split, onto}
use Rattle.coordinates.specs.declared.axis.Axis.TheVariants.{Column, Row}
use Rattle.coordinates.specs.declared.refusal.Fault.{Fault as RefusedFor}
use Rattle.coordinates.specs.declared.refusal.Fault.TheVariants.{Broken}
use Rattle.coordinates.specs.Refusals.{number_of, refused_by}
use Rattle.panel_tables.specs.declared.Panel.{Panel}
use Rattle.panel_tables.specs.Regions.{axis_words_in, area_words_in, placement_words_in}
use Rattle.panel_tables.specs.Written.{PanelHeld, PanelStepped, panel_held_of}
use Rattle.sheet_rules.specs.declared.Overlap.{Overlap}
use Rattle.sheet_rules.specs.declared.LineFault.{LineFault}
use Rattle.sheet_rules.specs.Answers.{noted, NumberedPair}
use Rattle.sheet_rules.specs.Sheet.{no_overlap}
use Rattle.sheet_rules.specs.Contents.{Line, lines_from}
use Rattle.sheet_forms.specs.Said.{Record, Fault, Axis as AxisLine, Area, Name, Track, Repeat, End, Spare, Extra, Item, Place, PictureRow, Cell}
use Rattle.sheet_forms.specs.Records.{record_of}
use Rattle.panel_tables.specs.declared.AreaEdges.{AreaEdges}
use Rattle.panel_tables.specs.Areas.{area_at}
use Rattle.panel_cells.specs.Steps.{shares, sharing_in}
use Rattle.sheet_rules.specs.Lines.{edges_of}
use Rattle.sheet_rules.specs.Steps.{held_step}
use Rattle.sheet_faults.specs.Lines.{fault_before, shared_in, line_in, line_shared}
use Rattle.sheet_step.specs.declared.Draft.{Draft}
use Rattle.sheet_step.specs.Drafts.{held_of}
use Rattle.sheet.specs.Runs.{HeldRun, stopped, held_run, noted_at, or_else, held_overlap, broken_note, or_line, held_broken, ended_by, ended_panel, held_end, held_after, held_sheet, held_judged}
use Rattle.sheet.specs.Steps.{EndsAsRun, at_line}

-- there is always a part
data HasPart (ps : List (List ℕ)) : Type 0 where
  some : (q : List ℕ) (qs : List (List ℕ)) → ps ≡ q ∷ qs → HasPart ps

onto-some : (x : ℕ) (ps : List (List ℕ)) → HasPart (onto x ps)
unfolding onto
onto-some x [] = some (x ∷ []) [] refl
onto-some x (p ∷ ps) = some (x ∷ p) ps refl

split-some : (b : ℕ) (l : List ℕ) → HasPart (split b l)
unfolding split
split-some b [] = some [] [] refl
split-some b (x ∷ xs) = go (eqb x b)
  where
    go : (t : Bool) → HasPart (cond t ([] ∷ split b xs) (onto x (split b xs)))
    go true = some [] (split b xs) refl
    go false = onto-some x (split b xs)

module _ (n : ℕ) (l : List ℕ) (h : PanelHeld) where
  -- a line before others
  more : (ps : List (List ℕ)) → HasPart ps
      → held_run n (l ∷ ps) h
      ≡ cond (eqb (line_in h (split 9 l)).fault 0) (held_run (n + 1) ps (line_in h (split 9 l)).held) (stopped (line_in h (split 9 l)).fault n (line_in h (split 9 l)).held)
  unfolding held_run
  more ps (some q qs e) = rw e

  -- a line that has an end: accepted, and refused
  module _ (b : ℕ) (x : List ℕ) (a : PanelStepped) (e : a ≡ line_in h (split 9 l)) where
    pub run-next : a.fault ≡ 0 → held_run n (l ∷ split b x) h ≡ held_run (n + 1) (split b x) a.held
    run-next z = more (split b x) (split-some b x) ∙ rw (← e, eq-eqb a.fault 0 z)

    pub run-stop : (a.fault ≡ 0 → ⊥) → held_run n (l ∷ split b x) h ≡ stopped a.fault n a.held
    run-stop z = more (split b x) (split-some b x) ∙ rw (← e, ne_eqb a.fault 0 z)

  -- a last line without a line feed
  pub run-open : (length l ≡ 0 → ⊥) → held_run n (l ∷ []) h ≡ stopped 1 n h
  unfolding held_run
  run-open z = rw (ne_eqb (length l) 0 z)

-- nothing after the last line feed
pub run-last : (n : ℕ) (h : PanelHeld) → held_run n ([] ∷ []) h ≡ stopped 0 n h
unfolding held_run
run-last n h = refl

-- ---- the overlap

-- it is one of the 64 areas
sharing-few : (words : List ℕ) (e : AreaEdges) (k i : ℕ) → sharing_in words e k i ≤ i + k
unfolding sharing_in
sharing-few words e zero i = omega arith
sharing-few words e (suc k) i = go (shares (area_at words i).edges e) (sharing-few words e k (i + 1))
  where
    go : (t : Bool) → sharing_in words e k (i + 1) ≤ i + 1 + k → cond t (i + 1) (sharing_in words e k (i + 1)) ≤ i + suc k
    go true h = omega arith
    go false h = omega arith

shared-in-few : (h : PanelHeld) (r : Record) → shared_in h r ≤ 64
shared-in-few h (Fault n) = omega arith
shared-in-few h (AxisLine a) = omega arith
shared-in-few h (Area a) = omega (arith, sharing-few h.areas (edges_of a) (min h.panel.grid.areas 64) 0)
shared-in-few h (Name a) = omega arith
shared-in-few h (Track a min max) = omega arith
shared-in-few h (Repeat a n) = omega arith
shared-in-few h (End a) = omega arith
shared-in-few h (Spare a min max) = omega arith
shared-in-few h (Extra a n p) = omega arith
shared-in-few h (Item a i) = omega arith
shared-in-few h (Place a s e) = omega arith
shared-in-few h (PictureRow n) = omega arith
shared-in-few h (Cell cs ce rs re) = omega arith

pub shared-few : (h : PanelHeld) (fs : List (List ℕ)) → line_shared h fs ≤ 64
unfolding line_shared
shared-few h fs = go (eqb (first_of (fault_before h fs (record_of fs)) (first_of (cond (eqb (shared_in h (record_of fs)) 0) 0 12) (held_step h fs (record_of fs)).fault)) 12)
  where
    go : (t : Bool) → cond t (shared_in h (record_of fs)) 0 ≤ 64
    go true = shared-in-few h (record_of fs)
    go false = omega arith

-- the first of three, in any grouping
else_joined : (o p q : Overlap) → or_else o (or_else p q) ≡ or_else (or_else o p) q
else_joined o p q = go (eqb o.later 0) refl
  where
    go : (t : Bool) → eqb o.later 0 ≡ t → cond t (or_else p q) o ≡ or_else (cond t p o) q
    go true e = refl
    go false e = sym (rw e)

-- one that was noted stays
module _ (o p : Option Overlap) (n : NumberedPair o) (r : Option Overlap) (e : r ≡ option_or o p) where
  pub noted-after : (q : Overlap) → noted p ≡ q → noted r ≡ or_else (noted o) q
  noted-after q d = ap noted e ∙ go o n ∙ ap (or_else (noted o)) d
    where
      go : (o : Option Overlap) → NumberedPair o → noted (option_or o p) ≡ or_else (noted o) (noted p)
      go None n = refl
      go (Some x) n = sym (rw (ne_eqb x.later 0 (λ y. omega arith)))

  pub numbered-after : NumberedPair p → NumberedPair r
  numbered-after m = rw e (go o n)
    where
      go : (o : Option Overlap) → NumberedPair o → NumberedPair (option_or o p)
      go None n = m
      go (Some x) n = n

-- nothing is noted later
pub settled : (o : Option Overlap) → NumberedPair o → or_else (noted o) no_overlap ≡ noted o
settled None n = refl
settled (Some x) n = rw (ne_eqb x.later 0 (λ y. omega arith))

module _ (n : ℕ) (l : List ℕ) (h : PanelHeld) (o : Overlap) where
  -- a line before others
  else-line : (ps : List (List ℕ)) → HasPart ps
      → or_else o (held_overlap n (l ∷ ps) h)
      ≡ or_else (or_else o (noted_at (line_shared h (split 9 l)) h.panel.grid.areas n)) (cond (eqb (line_in h (split 9 l)).fault 0) (held_overlap (n + 1) ps (line_in h (split 9 l)).held) no_overlap)
  unfolding held_overlap
  else-line ps (some q qs e) =
      rw e
      (else_joined o (noted_at (line_shared h (split 9 l)) h.panel.grid.areas n)
      (cond (eqb (line_in h (split 9 l)).fault 0) (held_overlap (n + 1) (q ∷ qs) (line_in h (split 9 l)).held) no_overlap))

  -- a line that has an end: accepted, and refused
  module _ (b : ℕ) (x : List ℕ) (a : PanelStepped) (e : a ≡ line_in h (split 9 l)) (k p : ℕ) (d : k ≡ line_shared h (split 9 l)) (g : p ≡ h.panel.grid.areas) where
    pub overlap-next : a.fault ≡ 0 → or_else o (held_overlap n (l ∷ split b x) h) ≡ or_else (or_else o (noted_at k p n)) (held_overlap (n + 1) (split b x) a.held)
    overlap-next z = else-line (split b x) (split-some b x) ∙ rw (← e, ← d, ← g, eq-eqb a.fault 0 z)

    pub overlap-stop : (a.fault ≡ 0 → ⊥) → or_else o (held_overlap n (l ∷ split b x) h) ≡ or_else (or_else o (noted_at k p n)) no_overlap
    overlap-stop z = else-line (split b x) (split-some b x) ∙ rw (← e, ← d, ← g, ne_eqb a.fault 0 z)

-- the areas of what is held
pub held-areas : (d : Draft) → d.panel.grid.areas ≡ (held_of d).panel.grid.areas
unfolding panel_held_of
held-areas d = refl

-- a last line without a line feed, or nothing after the last line feed
pub overlap-last : (n : ℕ) (l : List ℕ) (h : PanelHeld) → held_overlap n (l ∷ []) h ≡ no_overlap
unfolding held_overlap
overlap-last n l h = refl

-- ---- the last row of a broken picture

-- the first of three, in any grouping
line-joined : (a b c : ℕ) → or_line a (or_line b c) ≡ or_line (or_line a b) c
line-joined a b c = go (eqb a 0) refl
  where
    go : (t : Bool) → eqb a 0 ≡ t → cond t (or_line b c) a ≡ or_line (cond t b a) c
    go true e = refl
    go false e = sym (rw e)

-- nothing is noted later
pub none-later : (o : ℕ) → or_line o 0 ≡ o
none-later o = go (eqb o 0) refl
  where
    go : (t : Bool) → eqb o 0 ≡ t → cond t 0 o ≡ o
    go true e = sym (eqb-true o 0 e)
    go false e = refl

module _ (n : ℕ) (l : List ℕ) (h : PanelHeld) (o : ℕ) where
  -- a line before others
  broken-line : (ps : List (List ℕ)) → HasPart ps
      → or_line o (held_broken n (l ∷ ps) h)
      ≡ or_line o (cond (eqb (line_in h (split 9 l)).fault 0) (or_line (broken_note (line_in h (split 9 l)).held.reading.picture.broken (split 9 l) (lines_from ps) n) (held_broken (n + 1) ps (line_in h (split 9 l)).held)) 0)
  unfolding held_broken
  broken-line ps (some q qs e) = rw e

  -- a line that has an end: accepted, and refused
  module _ (b : ℕ) (x : List ℕ) (a : PanelStepped) (e : a ≡ line_in h (split 9 l)) where
    pub broken-next : a.fault ≡ 0
        → or_line o (held_broken n (l ∷ split b x) h) ≡ or_line (or_line o (broken_note a.held.reading.picture.broken (split 9 l) (lines_from (split b x)) n)) (held_broken (n + 1) (split b x) a.held)
    broken-next z =
        broken-line (split b x) (split-some b x)
        ∙ rw (← e, eq-eqb a.fault 0 z) (line-joined o (broken_note a.held.reading.picture.broken (split 9 l) (lines_from (split b x)) n) (held_broken (n + 1) (split b x) a.held))

    pub broken-stop : (a.fault ≡ 0 → ⊥) → or_line o (held_broken n (l ∷ split b x) h) ≡ o
    broken-stop z = broken-line (split b x) (split-some b x) ∙ rw (← e, ne_eqb a.fault 0 z) (none-later o)

-- whether the picture is broken, by the reading of what is held
pub held_note : (d : Draft) (o : ℕ) (fs : Line) (rest : List Line) (n : ℕ)
    → or_line o (broken_note (held_of d).reading.picture.broken fs rest n) ≡ or_line o (broken_note d.reading.picture.broken fs rest n)
unfolding panel_held_of
held_note d o fs rest n = refl

pub broken-last : (n : ℕ) (l : List ℕ) (h : PanelHeld) → held_broken n (l ∷ []) h ≡ 0
unfolding held_broken
broken-last n l h = refl

-- ---- the end after the lines

-- every fault has a number
pub has_number : (f : RefusedFor) → number_of f ≡ 0 → ⊥
has_number f = eqb-false (number_of f) 0 (fault_number f)

module _ (s : List ℕ) (h : PanelHeld) where
  -- without a broken picture the sheet ends as its lines and its end do
  judged-sheet : held_broken 1 (split 10 s) h ≡ 0 → held_judged s h ≡ held_sheet s h
  unfolding held_judged
  judged-sheet z = rw z

  -- a broken picture
  pub ends-broken : (n : ℕ) (k : PanelHeld) → 0 < n → n ≡ held_broken 1 (split 10 s) h → EndsAsRun (Err (record { fault = Broken; line = n })) k (held_judged s h)
  unfolding held_judged
  ends-broken n k p e = rw (← e, ne_eqb n 0 (λ y. omega arith)) (refl, refl)

  module _ (broken : held_broken 1 (split 10 s) h ≡ 0) where
    -- a refused line
    pub ends-refused : (f : LineFault) (k l : PanelHeld) → record { fault = number_of f.fault; line = f.line; held = k } ≡ held_run 1 (split 10 s) h → EndsAsRun (Err f) l (held_judged s h)
    unfolding held_sheet held_after
    ends-refused f k l e = rw (judged-sheet broken, ← e, ne_eqb (number_of f.fault) 0 (has_number f.fault)) (refl, refl)

    -- none is refused, and then the end of both axes
    pub ends-after : (n : ℕ) (k : PanelHeld) → record { fault = 0; line = n; held = k } ≡ held_run 1 (split 10 s) h → (end : Result (Unit {0}) RefusedFor) (l : PanelHeld)
        → record { fault = refused_by end; line = 0; held = l } ≡ held_end 0 k → EndsAsRun (at_line n end) l (held_judged s h)
    unfolding held_sheet held_after
    ends-after n k e (Ok u) l d = rw (judged-sheet broken, ← e) (sym (ap (λ (r : HeldRun). r.fault) d), ap (λ (r : HeldRun). r.held) d)
    ends-after n k e (Err f) l d = rw (judged-sheet broken, ← e) (ap (λ (r : HeldRun). r.fault) d, refl)

-- both axes end in the words of a draft, which then holds what the end leaves
pub end-held : (d : Draft) (g : ℕ) (u : Panel) (v : List ℕ)
    → record { fault = g; panel = u; columns = axis_words_in Column v; rows = axis_words_in Row v } ≡ ended_panel d.panel (panel_reading d.reading) (axis_words_in Column d.words) (axis_words_in Row d.words)
    → area_words_in v ≡ area_words_in d.words → placement_words_in v ≡ placement_words_in d.words
    → record { fault = g; line = 0; held = panel_held_of u (panel_reading d.reading) v d.bytes d.column_bytes d.row_bytes } ≡ held_end 0 (held_of d)
unfolding panel_held_of
end-held d g u v e x y = rw (x, y, ← e)

-- the same from the answers of the two axes, each of which leaves its state as it came where it is refused
pub ends-with : (d : Draft) (x y : Result AxisState RefusedFor) (v : List ℕ)
    → ended_by d.panel (record { answer = answered_end (state_in d.panel Column) x; words = axis_words_in Column v }) (record { answer = answered_end (state_in d.panel Row) y; words = axis_words_in Row v })
    ≡ ended_panel d.panel (panel_reading d.reading) (axis_words_in Column d.words) (axis_words_in Row d.words)
    → area_words_in v ≡ area_words_in d.words → placement_words_in v ≡ placement_words_in d.words
    → record {
      fault = first_of (refused_by x) (refused_by y);
      line = 0;
      held = panel_held_of (with_state (with_state d.panel Column (result_unwrap_or x (state_in d.panel Column))) Row (result_unwrap_or y (state_in d.panel Row))) (panel_reading d.reading) v d.bytes d.column_bytes d.row_bytes;
    }
    ≡ held_end 0 (held_of d)
ends-with d (Ok x) (Ok y) v e a b = end-held d _ _ v e a b
ends-with d (Ok x) (Err g) v e a b = end-held d _ _ v e a b
ends-with d (Err f) (Ok y) v e a b = end-held d _ _ v e a b
ends-with d (Err f) (Err g) v e a b = end-held d _ _ v e a b
