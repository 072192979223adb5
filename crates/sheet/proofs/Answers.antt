-- What reading a sheet answers and leaves, from what the arrays that it reads into hold. Assumes nothing.
use Rattle.std.specs.Prelude.{Result, Ok, Err}
use Prim.Native.Nat.{ℕ, ◌+◌, ◌-◌, ◌≤◌, ◌<◌, min}
use mathlib.Core.Path.{◌≡◌, refl, sym, ap, ◌∙◌, subst}
use mathlib.Core.List.{List, ◌++◌}
use mathlib.Core.Bool.{Bool, true, false, cond, ◌||◌, true≢false}
use lib.Dec.{eqb, ltb}
use native.Mathlib.Omega.{arith}
use lib.ListN.{length, drop, replicate}
use lib.Seq.{sets-eq}
use borrow.Author.Tests.{ltb-false, lt-ltb, le-ltb, eq-eqb, ne_eqb, eqb-true, eqb-false}
use Rattle.coordinates.specs.Refusals.{no_refusal, refusal_of, short, unread}
use Rattle.text.specs.Split.{split}
use Rattle.axis_tables.specs.Runs.{put_bytes, part_of}
use Rattle.axis_tables.specs.View.{AxisView, axis_bytes}
use Rattle.axis_tables.specs.Written.{names_store}
use Rattle.axis_tables.proofs.Fits.{Fits}
use Rattle.axis_tables.proofs.Lays.{pad-take}
use Rattle.panel_tables.specs.View.{empty_view}
use Rattle.panel_tables.specs.declared.Panel.{Panel}
use Rattle.panel_tables.specs.Readings.{Reading}
use Rattle.panel_tables.specs.Regions.{panel_words, panel_bytes}
use Rattle.panel_tables.specs.Written.{zero_panel, zero_panel_reading, PanelHeld, panel_held_of}
use Rattle.panel_tables.proofs.Fits.{FitsPanel}
use Rattle.panel_tables.proofs.Same.{zeros_same}
use Rattle.sheet_rules.specs.declared.Overlap.{Overlap}
use Rattle.sheet_rules.specs.declared.LineFault.{LineFault}
use Rattle.sheet_rules.specs.declared.SheetFault.{SheetFault}
use Rattle.sheet_rules.specs.declared.SheetFault.TheVariants.{Overlap as Overlaps, Line, Whole}
use Rattle.sheet_rules.specs.Answers.{grid_only, SheetAnswer, accepted_with, refused_with, TellsPair}
use Rattle.sheet_rules.specs.Sheet.{Outcome, run, fold_of, broken_of, with_broken as outcome_with, display_of, no_overlap, overlap_of}
use Rattle.sheet_rules.specs.Panels.{sized_state, sized_panel, Tables, tables_in, pasted, tables_of}
use Rattle.sheet_rules.specs.Read.{displayed, read_display, SheetRead, short_stores, refused_sheet, refused_overlap, read_by, strict_by, read_sheet}
use Rattle.sheet_rules.proofs.Fits.{empty_fits_sheet, display_fits}
use Rattle.sheet_rules.proofs.Chosen.{none-overlap}
use Rattle.sheet_rules.proofs.Former.{display-other}
use Rattle.sheet.specs.Runs.{HeldRun, stopped, held_run, held_overlap, held_broken, held_after, held_sheet, with_broken, held_judged}
use Rattle.sheet_step.specs.declared.Draft.{Draft}
use Rattle.sheet_step.specs.Drafts.{held_of}
use Rattle.sheet.specs.Steps.{fault_in, line_of, EndsAsRun, refused_answer, overlap_answer, judged_by, judgement, zero_held, copied, read_under}
use Rattle.sheet.proofs.Steps.{has_number}
use Rattle.sheet.proofs.Follows.{held_sized, Follows, run_follows, overlap_follows, broken_follows}

-- ---- the store of an axis

-- bytes at the start of a store that has room for them
pub put-start : (store bytes : List ℕ) → length bytes ≤ length store → put_bytes store 0 bytes ≡ bytes ++ drop (length bytes) store
unfolding put_bytes
put-start store bytes h =
    let e : 0 + length bytes ≡ length bytes = omega arith in
    rw (le-ltb (length store) 0 (omega arith), le-ltb (length store - 0) (length bytes) (omega arith))
    (sets-eq bytes store 0 (omega arith) ∙ ap (λ (k : ℕ). bytes ++ drop k store) e)

-- the names of an axis, in a store of the size asked for
pub put-names : (v : AxisView) (store : List ℕ) → Fits v → 32768 ≤ length store → put_bytes store 0 (part_of (names_store v) 0 (length (axis_bytes v))) ≡ pasted v store
unfolding names_store
put-names v store f h =
    ap (put_bytes store 0) (pad-take 32768 (axis_bytes v) f.bytes)
    ∙ put-start store (axis_bytes v) (omega (arith, f.bytes))

-- ---- the answer

-- from what is held at the end, with the overlap noted
abbrev pub answer_in : Overlap → PanelHeld → Tables → SheetRead
answer_in o h t =
    record {
      answer = record { refusal = no_refusal; earlier = o.earlier; later = o.later; panel = h.panel };
      tables = copied h t.column_store t.row_store;
    }

-- a refusal: an answer, and everything lent as it was
abbrev pub refused_read : SheetAnswer → Tables → SheetRead
refused_read a t = record { answer = a; tables = t }

module _ (p : Overlap) (o : Outcome) (t : Tables) where
  -- a refusal of the sheet, and of a store after it
  answer-refused : (o.fault ≡ 0 → ⊥) → refused_read (refused_answer o.fault o.line) t ≡ read_by p o t
  unfolding read_by
  answer-refused z = rw (ne_eqb o.fault 0 z)

  answer-short : o.fault ≡ 0 → short_stores t ≡ true → refused_sheet (refusal_of short) t ≡ read_by p o t
  unfolding read_by
  answer-short z k = rw (eq-eqb o.fault 0 z, k)

  -- stores that are not short
  pub enough : short_stores t ≡ false → (32768 ≤ length t.column_store) × (32768 ≤ length t.row_store)
  enough = go (ltb (length t.column_store) 32768) (ltb (length t.row_store) 32768) refl refl
    where
      go : (a b : Bool) → ltb (length t.column_store) 32768 ≡ a → ltb (length t.row_store) 32768 ≡ b → (a || b) ≡ false → (32768 ≤ length t.column_store) × (32768 ≤ length t.row_store)
      go true b x y z = absurd (true≢false z)
      go false true x y z = absurd (true≢false z)
      go false false x y z = (ltb-false (length t.column_store) 32768 x, ltb-false (length t.row_store) 32768 y)

  -- nothing is refused
  answer-done : FitsPanel o.view → o.fault ≡ 0 → short_stores t ≡ false → answer_in p (held_sized o.view) t ≡ read_by p o t
  unfolding read_by held_sized tables_of sized_panel sized_state
  answer-done f z k =
      rw (
        eq-eqb o.fault 0 z,
        k,
        put-names o.view.columns t.column_store f.columns (enough k).0,
        put-names o.view.rows t.row_store f.rows (enough k).1,
      )

-- ---- from what was read

-- a sheet that is not too long
fold_follows : (s : List ℕ) → length s ≤ 32768 → Follows (held_sheet s zero_held) (fold_of s)
unfolding fold_of held_sheet
fold_follows s k =
    rw (le-ltb 32768 (length s) k)
    (subst (λ (h : PanelHeld). Follows (held_after (held_run 1 (split 10 s) h)) (run 1 (split 10 s) empty_view)) zeros_same
    (run_follows 1 (split 10 s) empty_view empty_fits_sheet))

pub sheet_broken : (s : List ℕ) → length s ≤ 32768 → held_broken 1 (split 10 s) zero_held ≡ broken_of s
unfolding broken_of
sheet_broken s k =
    rw (le-ltb 32768 (length s) k)
    (ap (held_broken 1 (split 10 s)) (sym zeros_same) ∙ broken_follows 1 (split 10 s) empty_view empty_fits_sheet (omega arith))

-- with the line of a broken picture
broken_also : (b : ℕ) (r : HeldRun) (o : Outcome) → Follows r o → Follows (with_broken b r) (outcome_with b o)
broken_also b r o f = go (eqb b 0)
  where
    go : (t : Bool) → Follows (stopped (cond t r.fault 14) (cond t r.line b) r.held) (record { fault = cond t o.fault 14; line = cond t o.line b; view = o.view })
    go true = record { fault = f.fault; line = f.line; held = f.held }
    go false = record { fault = refl; line = λ y. refl; held = λ y. absurd (omega (arith, y)) }

sheet_follows : (s : List ℕ) → length s ≤ 32768 → Follows (held_judged s zero_held) (display_of s)
unfolding display_of held_judged
sheet_follows s k =
    subst (λ (b : ℕ). Follows (with_broken b (held_sheet s zero_held)) (outcome_with (broken_of s) (fold_of s))) (sym (sheet_broken s k)) (broken_also (broken_of s) (held_sheet s zero_held) (fold_of s) (fold_follows s k))

sheet_overlap : (s : List ℕ) → length s ≤ 32768 → held_overlap 1 (split 10 s) zero_held ≡ overlap_of s
unfolding overlap_of
sheet_overlap s k =
    rw (le-ltb 32768 (length s) k)
    (ap (held_overlap 1 (split 10 s)) (sym zeros_same) ∙ overlap_follows 1 (split 10 s) empty_view empty_fits_sheet)

-- ---- the stores, by the shorter of them
short-true : (a b m : ℕ) → m ≡ min a b → m < 32768 → (ltb a 32768 || ltb b 32768) ≡ true
short-true a b m e k = go (ltb a 32768) refl
  where
    go : (t : Bool) → ltb a 32768 ≡ t → (t || ltb b 32768) ≡ true
    go true x = refl
    go false x = let h = ltb-false a 32768 x in lt-ltb b 32768 (omega arith)

short-false : (a b m : ℕ) → m ≡ min a b → 32768 ≤ m → (ltb a 32768 || ltb b 32768) ≡ false
short-false a b m e k = rw (le-ltb a 32768 (omega arith), le-ltb b 32768 (omega arith))

-- a refusal has a number
refused-number : (f : SheetFault) → (refused_with f).refusal.number ≡ 0 → ⊥
refused-number (Overlaps p) e = absurd (omega arith)
refused-number (Line f) e = has_number f.fault e
refused-number (Whole fault) e = has_number fault e

-- a sheet too long
pub read_long : (former : Bool) (s : List ℕ) (t : Tables) → 32768 < length s → refused_read (refused_answer unread 0) t ≡ read_under former s t
unfolding read_under read_sheet strict_by overlap_of display_of fold_of broken_of read_by
read_long former s t k = rw (lt-ltb 32768 (length s) k) (go former)
  where
    go : (b : Bool) → refused_read (refused_answer unread 0) t ≡ cond b (refused_read (refused_answer unread 0) t) (refused_read (refused_answer unread 0) t)
    go true = refl
    go false = refl

pub start-zero : (p : Panel) (r : Reading) → p ≡ zero_panel → r ≡ zero_panel_reading
    → panel_held_of p r (replicate panel_words 0) (replicate panel_bytes 0) (replicate 32768 0) (replicate 32768 0) ≡ zero_held
start-zero p r e d = rw (e, d)

-- a sheet that ended as the run into zeros did follows its outcome
follows-end : (s : List ℕ) → length s ≤ 32768 → (end : Result (Unit {0}) LineFault) (h : PanelHeld) → EndsAsRun end h (held_judged s zero_held) → Follows (stopped (fault_in end) (line_of end) h) (display_of s)
follows-end s few (Ok u) h e =
    let f = sheet_follows s few in
    record { fault = sym e.0 ∙ f.fault; line = λ y. absurd (y (sym f.fault ∙ e.0)); held = λ z. e.1 ∙ f.held z }
follows-end s few (Err g) h e =
    let f = sheet_follows s few in
    record { fault = e.0 ∙ f.fault; line = λ y. e.1 ∙ f.line y; held = λ z. absurd (has_number g.fault (e.0 ∙ f.fault ∙ z)) }

-- the pair that was noted is the sheet's
pub pair-noted : (s : List ℕ) → length s ≤ 32768 → (start : PanelHeld) → start ≡ zero_held → (o : Overlap) → o ≡ held_overlap 1 (split 10 s) start → o ≡ overlap_of s
pair-noted s few start zero o e = e ∙ ap (held_overlap 1 (split 10 s)) zero ∙ sheet_overlap s few

-- what was read into zeros, under one of the rules
module _ (former : Bool) (s : List ℕ) (few : length s ≤ 32768) (end : Result (Unit {0}) LineFault) (h start : PanelHeld) (zero : start ≡ zero_held) (ends : EndsAsRun end h (held_judged s start)) (o : Overlap) (d₀ : o ≡ held_overlap 1 (split 10 s) start) where
  abbrev r : HeldRun
  r = stopped (fault_in end) (line_of end) h

  read-follows : Follows r (display_of s)
  read-follows = follows-end s few end h (subst (λ (x : PanelHeld). EndsAsRun end h (held_judged s x)) zero ends)

  noted : o ≡ overlap_of s
  noted = pair-noted s few start zero o d₀

  -- the rule on the overlap that was noted
  under : (t : Tables) → cond former (read_by o (display_of s) t) (strict_by o (display_of s) t) ≡ read_under former s t
  unfolding read_under read_sheet
  under t = ap (λ (p : Overlap). cond former (read_by p (display_of s) t) (strict_by p (display_of s) t)) noted

  -- the lines or the end are refused
  fault-read : (p : Overlap) (t : Tables) → (r.fault ≡ 0 → ⊥) → refused_read (refused_answer r.fault r.line) t ≡ read_by p (display_of s) t
  fault-read p t z =
      let f : Follows r (display_of s) = read-follows in
      let y : (display_of s).fault ≡ 0 → ⊥ = λ x. z (f.fault ∙ x) in
      rw (f.fault, f.line y) (answer-refused p (display_of s) t y)

  read-refused : (t : Tables) → ((judged_by former o r.fault r.line).refusal.number ≡ 0 → ⊥) → refused_read (judged_by former o r.fault r.line) t ≡ read_under former s t
  unfolding strict_by
  read-refused t z = go former (eqb o.later 0) z ∙ under t
    where
      go : (f b : Bool) → ((cond f (refused_answer r.fault r.line) (cond b (refused_answer r.fault r.line) (overlap_answer o))).refusal.number ≡ 0 → ⊥)
          → refused_read (cond f (refused_answer r.fault r.line) (cond b (refused_answer r.fault r.line) (overlap_answer o))) t
          ≡ cond f (read_by o (display_of s) t) (cond b (read_by no_overlap (display_of s) t) (refused_read (overlap_answer o) t))
      go true b y = fault-read o t y
      go false true y = fault-read no_overlap t y
      go false false y = refl

  -- a refusal that was found
  pub judged-refused : (f : SheetFault) → refused_with f ≡ judged_by former o (fault_in end) (line_of end) → (t : Tables) → refused_read (refused_with f) t ≡ read_under former s t
  judged-refused f e t =
      ap (λ (a : SheetAnswer). refused_read a t) e
      ∙ read-refused t (λ z. refused-number f (ap (λ (a : SheetAnswer). a.refusal.number) e ∙ z))

  -- nothing is: then there is no pair to hide
  unrefused : (t : Tables) → (judged_by former o r.fault r.line).refusal.number ≡ 0 → (r.fault ≡ 0) × (read_by o (display_of s) t ≡ read_under former s t)
  unfolding strict_by
  unrefused t z = let p = go former (eqb o.later 0) refl z in (p.0, p.1 ∙ under t)
    where
      none : o.later ≡ 0 → o ≡ no_overlap
      none x = noted ∙ none-overlap s (ap (λ (p : Overlap). p.later) (sym noted) ∙ x)

      go : (f b : Bool) → eqb o.later 0 ≡ b → (cond f (refused_answer r.fault r.line) (cond b (refused_answer r.fault r.line) (overlap_answer o))).refusal.number ≡ 0
          → (r.fault ≡ 0) × (read_by o (display_of s) t ≡ cond f (read_by o (display_of s) t) (cond b (read_by no_overlap (display_of s) t) (refused_read (overlap_answer o) t)))
      go true b x y = (y, refl)
      go false true x y = (y, ap (λ (p : Overlap). read_by p (display_of s) t) (none (eqb-true o.later 0 x)))
      go false false x y = absurd (omega arith)

  -- into the words and the bytes that are lent, and the stores
  module _ (w b cs rs : List ℕ) (found : judgement (Ok tt) ≡ judged_by former o (fault_in end) (line_of end)) where
    z : (judged_by former o r.fault r.line).refusal.number ≡ 0
    z = sym (ap (λ (a : SheetAnswer). a.refusal.number) found)

    accepted : (display_of s).fault ≡ 0
    accepted = sym read-follows.fault ∙ (unrefused (tables_in w b cs rs) z).0

    pub read_short : (m : ℕ) → m ≡ min (length cs) (length rs) → m < 32768 → refused_read (refused_answer short 0) (tables_in w b cs rs) ≡ read_under former s (tables_in w b cs rs)
    unfolding tables_in
    read_short m e k = answer-short o (display_of s) (tables_in w b cs rs) accepted (short-true (length cs) (length rs) m e k) ∙ (unrefused (tables_in w b cs rs) z).1

    pub read_done : (m : ℕ) → m ≡ min (length cs) (length rs) → 32768 ≤ m → answer_in o h (tables_in w b cs rs) ≡ read_under former s (tables_in w b cs rs)
    unfolding tables_in
    read_done m e k =
        ap (λ (x : PanelHeld). answer_in o x (tables_in w b cs rs)) (read-follows.held accepted)
        ∙ answer-done o (display_of s) (tables_in w b cs rs) (display_fits s) accepted (short-false (length cs) (length rs) m e k)
        ∙ (unrefused (tables_in w b cs rs) z).1

-- what is answered from words and bytes, where nothing is refused
pub answer_in_lem : (o : Overlap) (d : Draft) (w b cs rs : List ℕ)
    → record { answer = accepted_with o d.panel; tables = copied (held_of d) cs rs } ≡ answer_in o (held_of d) (tables_in w b cs rs)
unfolding tables_in panel_held_of
answer_in_lem o d w b cs rs = refl

-- ---- a sheet that is accepted has no pair

-- without a pair
abbrev unpaired : SheetRead → SheetRead
unpaired r = record { answer = record { refusal = r.answer.refusal; earlier = 0; later = 0; panel = r.answer.panel }; tables = r.tables }

no-pair-by : (p : Overlap) (o : Outcome) (t : Tables) → (strict_by p o t).answer.refusal.number ≡ 0 → unpaired (strict_by p o t) ≡ strict_by p o t
unfolding strict_by read_by
no-pair-by p o t z = go (eqb p.later 0) (eqb o.fault 0) (short_stores t) z
  where
    read : Bool → Bool → SheetRead
    read b c =
        cond b
        (cond c (refused_sheet (refusal_of short) t) (record { answer = accepted_with no_overlap (sized_panel o.view); tables = tables_of o.view t }))
        (refused_sheet (record { number = o.fault; line = o.line }) t)

    go : (a b c : Bool) → (cond a (read b c) (refused_overlap p t)).answer.refusal.number ≡ 0 → unpaired (cond a (read b c) (refused_overlap p t)) ≡ cond a (read b c) (refused_overlap p t)
    go true true true z = refl
    go true true false z = refl
    go true false c z = refl
    go false b c z = absurd (omega arith)

pub no-pair : (s : List ℕ) (t u : Tables) (p : Overlap) (panel : Panel) → record { answer = accepted_with p panel; tables = u } ≡ read_sheet s t → record { answer = accepted_with no_overlap panel; tables = u } ≡ read_sheet s t
unfolding read_sheet
no-pair s t u p panel e = ap unpaired e ∙ no-pair-by (overlap_of s) (display_of s) t (ap (λ (r : SheetRead). r.answer.refusal.number) (sym e))

-- ---- no line is refused by 12

by-other : (p : Overlap) (o : Outcome) (t : Tables) → (o.fault ≡ 12 → ⊥) → (read_by p o t).answer.refusal.number ≡ 12 → ⊥
unfolding read_by
by-other p o t h = go (eqb o.fault 0) (short_stores t)
  where
    go : (b c : Bool)
        → (cond b (cond c (refused_sheet (refusal_of short) t) (record { answer = accepted_with p (sized_panel o.view); tables = tables_of o.view t })) (refused_sheet (record { number = o.fault; line = o.line }) t)).answer.refusal.number ≡ 12
        → ⊥
    go true true z = omega (arith, z)
    go true false z = omega (arith, z)
    go false c z = h z

under-other : (former : Bool) (s : List ℕ) (t : Tables) → (read_under former s t).answer.refusal.number ≡ 12 → (read_under former s t).answer.later ≡ 0 → ⊥
unfolding read_under read_sheet strict_by
under-other true s t z l = by-other (overlap_of s) (display_of s) t (display-other s) z
under-other false s t z l = go (eqb (overlap_of s).later 0) refl z l
  where
    go : (b : Bool) → eqb (overlap_of s).later 0 ≡ b → (cond b (read_by no_overlap (display_of s) t) (refused_overlap (overlap_of s) t)).answer.refusal.number ≡ 12
        → (cond b (read_by no_overlap (display_of s) t) (refused_overlap (overlap_of s) t)).answer.later ≡ 0 → ⊥
    go true e y m = by-other no_overlap (display_of s) t (display-other s) y
    go false e y m = eqb-false (overlap_of s).later 0 e m

-- a refusal by 12 has its pair
pub tells_pair : (former : Bool) (s : List ℕ) (t u : Tables) (f : SheetFault) → record { answer = refused_with f; tables = u } ≡ read_under former s t → TellsPair f
tells_pair former s t u (Overlaps p) e = tt
tells_pair former s t u (Line g) e = λ z. under-other former s t (ap (λ (r : SheetRead). r.answer.refusal.number) (sym e) ∙ z) (ap (λ (r : SheetRead). r.answer.later) (sym e))
tells_pair former s t u (Whole fault) e = λ z. under-other former s t (ap (λ (r : SheetRead). r.answer.refusal.number) (sym e) ∙ z) (ap (λ (r : SheetRead). r.answer.later) (sym e))

-- ---- for display

-- an accepted sheet with the pair that was noted
pub display_read : (s : List ℕ) (t u : Tables) (o : Overlap) (p : Panel) (e l : ℕ) → record { answer = accepted_with o p; tables = u } ≡ read_under true s t → e ≡ o.earlier → l ≡ o.later
    → record { answer = record { refusal = no_refusal; earlier = e; later = l; grid = p.grid }; tables = u } ≡ read_display s t
unfolding read_display read_under
display_read s t u o p e l h i j = rw (i, j) (ap displayed h)

-- a refused one
pub display_refused : (s : List ℕ) (t u : Tables) (f : SheetFault) → record { answer = refused_with f; tables = u } ≡ read_under true s t → record { answer = grid_only (refused_with f); tables = u } ≡ read_display s t
unfolding read_display read_under
display_refused s t u f h = ap displayed h
