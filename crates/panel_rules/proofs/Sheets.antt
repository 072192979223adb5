-- An accepted sheet: it has no fault, no areas of it share a cell, and the stores are long enough; what is held after it. Assumes nothing.
use Prim.Native.Nat.{ℕ}
use mathlib.Core.Path.{◌≡◌, refl, sym, ap, ◌∙◌}
use mathlib.Core.Bool.{Bool, true, false}
use mathlib.Core.List.{List, [], ◌++◌, append-nil}
use native.Mathlib.Omega.{arith}
use native.Mathlib.Nat.{add-zero}
use lib.Dec.{eqb}
use lib.ListN.{length, drop}
use borrow.Author.Tests.{eqb-true, eqb-false, eq-eqb, ne_eqb}
use Rattle.coordinates.specs.Refusals.{Refusal, no_refusal}
use Rattle.axis_tables.specs.View.{AxisView, axis_bytes}
use Rattle.axis_tables.specs.Written.{words_with}
use Rattle.panel_tables.specs.View.{PanelView}
use Rattle.sheet_rules.specs.declared.Overlap.{Overlap}
use Rattle.sheet_rules.specs.Sheet.{Outcome, display_of, no_overlap, overlap_of, sheet_of}
use Rattle.sheet_rules.specs.Panels.{Tables, entry_words, sized_state, sized_panel, tables_of, pasted}
use Rattle.sheet_rules.specs.Read.{SheetRead, short_stores, read_by, refused_overlap, strict_by, read_sheet}
use Rattle.sheet_rules.proofs.Chosen.{former_outcome}
use Rattle.panel_rules.specs.Runs.{Held, Accepted, sheet_held}
use Rattle.panel_rules.specs.Views.{bytes_after, words_after, store_after, state_after, held_after}

-- ---- the refusal

-- what an answer without refusal tells
read_by_lem : (p : Overlap) (o : Outcome) (t : Tables) → (read_by p o t).answer.refusal ≡ no_refusal → (o.fault ≡ 0) × (short_stores t ≡ false)
unfolding read_by
read_by_lem p o t ok = go (eqb o.fault 0) (short_stores t) refl refl
  where
    zero_number : (read_by p o t).answer.refusal.number ≡ 0
    zero_number = ap (λ (r : Refusal). r.number) ok

    go : (a b : Bool) → eqb o.fault 0 ≡ a → short_stores t ≡ b → (o.fault ≡ 0) × (short_stores t ≡ false)
    go true false e f = (eqb-true o.fault 0 e, f)
    go true true e f =
        let n : (read_by p o t).answer.refusal.number ≡ 10 = rw (e, f) in
        absurd (omega (arith, n, zero_number))
    go false b e f =
        let n : (read_by p o t).answer.refusal.number ≡ o.fault = rw e in
        absurd (eqb-false o.fault 0 e (sym n ∙ zero_number))

-- the answer where no areas share a cell, and where two do
pub read_former : (s : List ℕ) (t : Tables) → (overlap_of s).later ≡ 0 → read_sheet s t ≡ read_by no_overlap (display_of s) t
unfolding read_sheet strict_by
read_former s t e = rw (eq-eqb (overlap_of s).later 0 e)

pub read_overlap : (s : List ℕ) (t : Tables) → ((overlap_of s).later ≡ 0 → ⊥) → read_sheet s t ≡ refused_overlap (overlap_of s) t
unfolding read_sheet strict_by
read_overlap s t h = rw (ne_eqb (overlap_of s).later 0 h)

-- no areas of an accepted sheet share a cell
pub accepted-none : (s : List ℕ) (t : Tables) → Accepted s t → (overlap_of s).later ≡ 0
accepted-none s t ok = go (eqb (overlap_of s).later 0) refl
  where
    go : (b : Bool) → eqb (overlap_of s).later 0 ≡ b → (overlap_of s).later ≡ 0
    go true e = eqb-true (overlap_of s).later 0 e
    go false e =
        let n : (read_sheet s t).answer.refusal.number ≡ 12 = ap (λ (r : SheetRead). r.answer.refusal.number) (read_overlap s t (eqb-false (overlap_of s).later 0 e)) in
        let z : (read_sheet s t).answer.refusal.number ≡ 0 = ap (λ (r : Refusal). r.number) ok in
        absurd (omega (arith, n, z))

-- an accepted sheet has no fault, and neither store is short
former_accepted : (s : List ℕ) (t : Tables) → Accepted s t → ((display_of s).fault ≡ 0) × (short_stores t ≡ false)
former_accepted s t ok =
    read_by_lem no_overlap (display_of s) t (ap (λ (r : SheetRead). r.answer.refusal) (sym (read_former s t (accepted-none s t ok))) ∙ ok)

pub accepted_sheet : (s : List ℕ) (t : Tables) → Accepted s t → ((sheet_of s).fault ≡ 0) × (short_stores t ≡ false)
accepted_sheet s t ok =
    let p = former_accepted s t ok in
    (ap (λ (o : Outcome). o.fault) (former_outcome s (accepted-none s t ok)) ∙ p.0, p.1)

-- ---- what is held

-- no further entry
module _ (v : AxisView) where
  no_bytes : bytes_after v [] ≡ axis_bytes v
  no_bytes = append-nil (axis_bytes v)

  no-state : state_after v [] ≡ sized_state v
  unfolding state_after sized_state
  no-state = rw (no_bytes, add-zero (length (entry_words v)))

  no_words : words_after v [] ≡ words_with v (entry_words v)
  unfolding words_after
  no_words = ap (words_with v) (append-nil (entry_words v))

  no_store : (store : List ℕ) → store_after v [] store ≡ pasted v store
  unfolding store_after
  no_store store = ap (λ (b : List ℕ). b ++ drop (length b) store) no_bytes

-- the state and the tables of a view are those with no further entry
no-entries : (v : PanelView) (t : Tables) → held_after v t [] [] ≡ record { panel = sized_panel v; tables = tables_of v t }
unfolding held_after sized_panel tables_of
no-entries v t =
    rw (
      no-state v.columns,
      no-state v.rows,
      no_words v.columns,
      no_words v.rows,
      no_store v.columns t.column_store,
      no_store v.rows t.row_store,
    )

-- what is held after an accepted sheet
abbrev held_from : SheetRead → Held
held_from r = record { panel = r.answer.panel; tables = r.tables }

held_by_lem : (o : Outcome) (t : Tables) → o.fault ≡ 0 → short_stores t ≡ false → held_from (read_by no_overlap o t) ≡ held_after o.view t [] []
unfolding read_by
held_by_lem o t z k = rw (eq-eqb o.fault 0 z, k) (sym (no-entries o.view t))

pub sheet_held_lem : (s : List ℕ) (t : Tables) → Accepted s t → sheet_held s t ≡ held_after (sheet_of s).view t [] []
unfolding sheet_of
sheet_held_lem s t ok =
    let p = former_accepted s t ok in
    ap held_from (read_former s t (accepted-none s t ok)) ∙ held_by_lem (display_of s) t p.0 p.1
