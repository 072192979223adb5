-- The end of a sheet on the state and words of a view is the view's: its refusal, its size and its entries. Assumes nothing.
use Rattle.std.specs.Prelude.{None}
use Prim.Native.Nat.{ℕ, suc, ◌+◌, ◌≤◌, ◌<◌}
use mathlib.Core.Path.{◌≡◌, refl, sym, ap, ◌∙◌}
use mathlib.Core.Bool.{Bool, true, false, cond}
use mathlib.Core.List.{List, [], ◌∷◌, ◌++◌, map, append_assoc, append-nil}
use native.Mathlib.Omega.{arith}
use borrow.Author.Tests.{le-leb, lt-leb, lt-ltb, le-ltb, ltb-true, ltb-false}
use lib.Dec.{eqb, ltb}
use lib.ListN.{length, length-map, length-append}
use lib.Seq.{sets}
use Rattle.coordinates.specs.Refusals.{no_refusal, count}
use Rattle.template_rules.specs.Explicit.{refused_size, with_areas, explicit_size_of}
use Rattle.name_template.specs.Writing.{entry_word}
use Rattle.sheet_forms.specs.Faults.{first_of, rank_of}
use Rattle.sheet_forms.proofs.Firsts.{first_left, first_one, first_zero}
use Rattle.axis_tables.specs.View.{Repeat, Unended, none, inside, AxisView, components_of}
use Rattle.axis_tables.specs.Written.{regions_of, words_with, axis_words, state_of, repeat_of, reading_of}
use Rattle.axis_tables.proofs.Lays.{lay-put}
use Rattle.axis_tables.proofs.Fits.{Fits}
use Rattle.axis_tables.proofs.Back.{template-back, components-back, name-words-back}
use Rattle.sheet_rules.specs.Sheet.{size_of, explicit_of, entries_of, open_fault, count_fault, entries_fault, axis_fault}
use Rattle.sheet_rules.specs.Panels.{name_entries, entry_words, sized_state}
use Rattle.sheet_end.specs.End.{size_in, entries_by, entries_in, ended_or, end_fault_in, end_in}
use Rattle.sheet_end.proofs.Faults.{kept}
use Rattle.sheet_end.proofs.Entries.{few-components, none_open, entries-count}

-- entries one after the other in their region
entries-more : (v : AxisView) (ys es : List ℕ) (p : ℕ) → p ≡ 8384 + length es → length es + length ys ≤ 4096 → sets (words_with v es) p ys ≡ words_with v (es ++ ys)
unfolding words_with regions_of
entries-more v [] es p q h = rw (append-nil es)
entries-more v (y ∷ ys) es p q h =
    let e : length (es ++ (y ∷ [])) ≡ length es + 1 = length-append es (y ∷ []) in
    ap (λ (w : List ℕ). sets w (suc p) ys) (lay-put (regions_of v es) 6 y (length es) p refl (omega arith) (omega arith))
    ∙ entries-more v ys (es ++ (y ∷ [])) (suc p) (omega arith) (omega arith)
    ∙ ap (words_with v) (append_assoc es (y ∷ []) ys)

module _ (v : AxisView) (f : Fits v) where
  -- layer 3 gets the view's template
  size-read : size_in (state_of v) (axis_words v) ≡ with_areas v.areas (size_of v)
  unfolding size_in size_of explicit_size_of
  size-read = rw (template-back v f [], le-leb (length (components_of v.template)) 64 (few-components v f))

  -- its answer, and its refusal
  size-within : explicit_of v ≤ 10000
      → size_in (state_of v) (axis_words v) ≡ record { refusal = no_refusal; repetitions = (size_of v).repetitions; template = (size_of v).tracks; explicit = explicit_of v }
  unfolding with_areas
  size-within h = size-read ∙ rw (le-leb (explicit_of v) 10000 h)

  size-beyond : 10000 < explicit_of v → size_in (state_of v) (axis_words v) ≡ refused_size count
  unfolding with_areas
  size-beyond h = size-read ∙ rw (lt-leb (explicit_of v) 10000 h)

  -- layer 4 gets its names and components, where its template counts
  entries-within : explicit_of v ≤ 10000 → entries_in (state_of v) (axis_words v) ≡ name_entries v
  unfolding entries_by name_entries
  entries-within h = rw (size-within h, name-words-back v f [], components-back v f [])

  -- ---- the fault
  -- an open repeat comes first
  open-fault : (r : Repeat) → v.unended ≡ inside r → end_fault_in (state_of v) (reading_of v) (axis_words v) ≡ 1
  unfolding end_fault_in
  open-fault r e =
      ap (λ (u : Unended). ended_or (repeat_of v.line.seen v.template u).unended (cond (eqb (size_in (state_of v) (axis_words v)).refusal.number 0) (cond (ltb 4096 (length (entries_in (state_of v) (axis_words v)))) 8 0) (size_in (state_of v) (axis_words v)).refusal.number)) e

  -- then an explicit count above 10,000, then the entries
  module _ (closed : v.unended ≡ none) where
    ended : (reading_of v).unended ≡ None
    ended = ap (λ (u : Unended). (repeat_of v.line.seen v.template u).unended) closed

    within-fault : explicit_of v ≤ 10000 → end_fault_in (state_of v) (reading_of v) (axis_words v) ≡ first_of (count_fault v) (entries_fault v)
    unfolding end_fault_in
    within-fault h =
        rw (ended, entries-within h, size-within h, entries-count v f closed)
        (sym (first_left (count_fault v) (entries_fault v) (rw (le-ltb 10000 (explicit_of v) h))))

    beyond-fault : 10000 < explicit_of v → end_fault_in (state_of v) (reading_of v) (axis_words v) ≡ first_of (count_fault v) (entries_fault v)
    unfolding end_fault_in first_of rank_of
    beyond-fault h = rw (ended, size-beyond h, lt-ltb 10000 (explicit_of v) h) (go (ltb 4096 (length (entries_of v))))
      where
        go : (t : Bool) → 4 ≡ first_of 4 (cond t 8 0)
        go true = refl
        go false = refl

-- the end's fault is the view's
pub end_fault_lem : (v : AxisView) → Fits v → end_fault_in (state_of v) (reading_of v) (axis_words v) ≡ axis_fault v
end_fault_lem v f = by v.unended refl
  where
    counted : v.unended ≡ none → (t : Bool) → ltb 10000 (explicit_of v) ≡ t → end_fault_in (state_of v) (reading_of v) (axis_words v) ≡ first_of (count_fault v) (entries_fault v)
    counted e true c = beyond-fault v f e (ltb-true 10000 (explicit_of v) c)
    counted e false c = within-fault v f e (ltb-false 10000 (explicit_of v) c)

    by : (u : Unended) → v.unended ≡ u → end_fault_in (state_of v) (reading_of v) (axis_words v) ≡ axis_fault v
    by none e =
        counted e (ltb 10000 (explicit_of v)) refl
        ∙ sym (first_left (open_fault v.unended) (first_of (count_fault v) (entries_fault v)) (ap open_fault e))
    by (inside r) e = open-fault v f r e ∙ sym (first_one (open_fault v.unended) (first_of (count_fault v) (entries_fault v)) (ap open_fault e))

-- without fault the end leaves the view's size and entries
pub end_same : (v : AxisView) → Fits v → axis_fault v ≡ 0
    → end_in (state_of v) (reading_of v) (axis_words v) ≡ record { answer = record { fault = 0; state = sized_state v }; words = words_with v (entry_words v) }
unfolding end_in sized_state entry_words
end_same v f e =
    let z = (first_zero (open_fault v.unended) (first_of (count_fault v) (entries_fault v)) e).1 in
    let y = first_zero (count_fault v) (entries_fault v) z in
    let w = name_entries v in
    let h : explicit_of v ≤ 10000 = kept 10000 (explicit_of v) 4 (omega arith) y.0 in
    let n : length (entries_of v) ≤ 4096 = kept 4096 (length (entries_of v)) 8 (omega arith) y.1 in
    let l : length (map entry_word w) ≡ length w = length-map w entry_word in
    let m : 0 + length (map entry_word w) ≤ 4096 = rw (l, entries-count v f (none_open v e)) (omega arith) in
    rw (end_fault_lem v f ∙ e, entries-within v f h, size-within v f h, l, entries-more v (map entry_word w) [] 8384 refl m)
