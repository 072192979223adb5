-- Areas that share a cell are refused with the first pair, and the display call answers as before. Assumes nothing.
use Prim.Native.Nat.{ℕ}
use mathlib.Core.Path.{◌≡◌, refl, sym, ap, ◌∙◌, subst}
use mathlib.Core.List.{List}
use mathlib.Core.Bool.{Bool, true, false}
use mathlib.Core.Logic.{◌⊎◌, inl, inr, ⊎_elim, ◌↔◌}
use native.Mathlib.Omega.{arith}
use lib.Dec.{eqb}
use borrow.Author.Tests.{eqb-true, eqb-false}
use Rattle.coordinates.specs.Refusals.{Refusal, no_refusal}
use Rattle.panel_cells.specs.Cells.{FirstPair, CellsOnce}
use Rattle.panel_cells.proofs.Pairs.{none_once}
use Rattle.sheet_rules.specs.declared.Overlap.{Overlap}
use Rattle.sheet_rules.specs.Sheet.{Outcome, display_of, no_overlap, overlap_of, sheet_of}
use Rattle.sheet_rules.specs.Panels.{Tables}
use Rattle.sheet_rules.specs.Overlaps.{PairAt}
use Rattle.sheet_rules.specs.Read.{SheetRead, short_stores, read_by, read_sheet, displayed, read_display}
use Rattle.sheet_rules.proofs.Chosen.{accepted_former, none-overlap}
use Rattle.sheet_rules.proofs.Overlaps.{refused_pair, none_noted, display_noted}
use Rattle.panel_rules.specs.Runs.{Accepted}
use Rattle.panel_rules.proofs.Sheets.{accepted_sheet, read_former, read_overlap, accepted-none}
use Rattle.panel_demands.specs.Overlaps.{Displayed, OverlapTheorem}
use Rattle.panel_demands.proofs.Former.{former_number}

-- ---- an answer where overlap is no fault

module _ (p : Overlap) (o : Outcome) (t : Tables) where
  -- its number is the outcome's or 10
  number_by : ((read_by p o t).answer.refusal.number ≡ o.fault) ⊎ ((read_by p o t).answer.refusal.number ≡ 10)
  unfolding read_by
  number_by = go (eqb o.fault 0) (short_stores t) refl refl
    where
      go : (a b : Bool) → eqb o.fault 0 ≡ a → short_stores t ≡ b → ((read_by p o t).answer.refusal.number ≡ o.fault) ⊎ ((read_by p o t).answer.refusal.number ≡ 10)
      go true true e f = inr (rw (e, f))
      go true false e f = inl (rw (e, f) (sym (eqb-true o.fault 0 e)))
      go false b e f = inl (rw e)

  -- accepted: no fault, and the pair is the one noted
  accepted-by : (read_by p o t).answer.refusal ≡ no_refusal → (o.fault ≡ 0) × ((read_by p o t).answer.earlier ≡ p.earlier) × ((read_by p o t).answer.later ≡ p.later)
  unfolding read_by
  accepted-by ok = go (eqb o.fault 0) (short_stores t) refl refl
    where
      zero : (read_by p o t).answer.refusal.number ≡ 0
      zero = ap (λ (r : Refusal). r.number) ok

      go : (a b : Bool) → eqb o.fault 0 ≡ a → short_stores t ≡ b → (o.fault ≡ 0) × ((read_by p o t).answer.earlier ≡ p.earlier) × ((read_by p o t).answer.later ≡ p.later)
      go true false e f = (eqb-true o.fault 0 e, rw (e, f), rw (e, f))
      go true true e f = let n : (read_by p o t).answer.refusal.number ≡ 10 = rw (e, f) in absurd (omega (arith, n, zero))
      go false b e f = let n : (read_by p o t).answer.refusal.number ≡ o.fault = rw e in absurd (eqb-false o.fault 0 e (sym n ∙ zero))

-- without a pair it has none
no_pair_by : (o : Outcome) (t : Tables) → ((read_by no_overlap o t).answer.earlier ≡ 0) × ((read_by no_overlap o t).answer.later ≡ 0)
unfolding read_by
no_pair_by o t = go (eqb o.fault 0) (short_stores t) refl refl
  where
    go : (a b : Bool) → eqb o.fault 0 ≡ a → short_stores t ≡ b → ((read_by no_overlap o t).answer.earlier ≡ 0) × ((read_by no_overlap o t).answer.later ≡ 0)
    go true true e f = (rw (e, f), rw (e, f))
    go true false e f = (rw (e, f), rw (e, f))
    go false b e f = (rw e, rw e)

-- ---- the two calls

module _ (s : List ℕ) (t : Tables) where
  abbrev n : Overlap
  n = overlap_of s

  noted-or-not : (n.later ≡ 0) ⊎ (n.later ≡ 0 → ⊥)
  noted-or-not = go (eqb n.later 0) refl
    where
      go : (b : Bool) → eqb n.later 0 ≡ b → (n.later ≡ 0) ⊎ (n.later ≡ 0 → ⊥)
      go true e = inl (eqb-true n.later 0 e)
      go false e = inr (eqb-false n.later 0 e)

  -- the sheet call refuses by 12 exactly where two areas share a cell
  former-twelve : n.later ≡ 0 → (read_sheet s t).answer.refusal.number ≡ 12 → ⊥
  former-twelve e z =
      let q = ap (λ (r : SheetRead). r.answer.refusal.number) (read_former s t e) in
      ⊎_elim (λ x. former_number s (sym x ∙ sym q ∙ z)) (λ x. omega (arith, x, sym q ∙ z)) (number_by no_overlap (display_of s) t)

  first-pair : (read_sheet s t).answer.refusal.number ≡ 12 → PairAt s (read_sheet s t).answer.refusal.line (read_sheet s t).answer.earlier (read_sheet s t).answer.later
  first-pair z = ⊎_elim (λ e. absurd (former-twelve e z)) pair noted-or-not
    where
      pair : (n.later ≡ 0 → ⊥) → PairAt s (read_sheet s t).answer.refusal.line (read_sheet s t).answer.earlier (read_sheet s t).answer.later
      pair h =
          subst (λ (r : SheetRead). PairAt s r.answer.refusal.line r.answer.earlier r.answer.later) (sym (read_overlap s t h)) (refused_pair s h)

  not-twelve : ((read_sheet s t).answer.refusal.number ≡ 12 → ⊥) → n.later ≡ 0
  not-twelve h = ⊎_elim (λ e. e) (λ x. absurd (h (ap (λ (r : SheetRead). r.answer.refusal.number) (read_overlap s t x)))) noted-or-not

  no-pair : ((read_sheet s t).answer.refusal.number ≡ 12 → ⊥) → ((read_sheet s t).answer.earlier ≡ 0) × ((read_sheet s t).answer.later ≡ 0)
  no-pair h =
      subst (λ (r : SheetRead). (r.answer.earlier ≡ 0) × (r.answer.later ≡ 0)) (sym (read_former s t (not-twelve h))) (no_pair_by (display_of s) t)

  display_former_lem : ((read_sheet s t).answer.refusal.number ≡ 12 → ⊥) → read_display s t ≡ displayed (read_sheet s t)
  unfolding read_display
  display_former_lem h =
      let e = not-twelve h in
      ap (λ (p : Overlap). displayed (read_by p (display_of s) t)) (none-overlap s e) ∙ ap displayed (sym (read_former s t e))

  display-never : (read_display s t).answer.refusal.number ≡ 12 → ⊥
  unfolding read_display
  display-never z = ⊎_elim (λ x. former_number s (sym x ∙ z)) (λ x. omega (arith, x, z)) (number_by n (display_of s) t)

  -- where the display call accepts, its pair is the one noted
  display-noted-pair : Displayed s t → ((display_of s).fault ≡ 0) × ((read_display s t).answer.earlier ≡ n.earlier) × ((read_display s t).answer.later ≡ n.later)
  unfolding read_display
  display-noted-pair ok = accepted-by n (display_of s) t ok

  display-first : Displayed s t → ((read_display s t).answer.later ≡ 0 → ⊥) → FirstPair (display_of s).view.areas (read_display s t).answer.earlier (read_display s t).answer.later
  display-first ok h =
      let p = display-noted-pair ok in
      subst (λ (i : ℕ). FirstPair (display_of s).view.areas i (read_display s t).answer.later) (sym p.1)
      (subst (FirstPair (display_of s).view.areas n.earlier) (sym p.2) (display_noted s p.0 (λ z. h (p.2 ∙ z))))

  display-pair : Displayed s t → ((read_display s t).answer.later ≡ 0) ↔ CellsOnce (display_of s).view.areas
  display-pair ok = (to, back)
    where
      p : ((display_of s).fault ≡ 0) × ((read_display s t).answer.earlier ≡ n.earlier) × ((read_display s t).answer.later ≡ n.later)
      p = display-noted-pair ok

      to : (read_display s t).answer.later ≡ 0 → CellsOnce (display_of s).view.areas
      to z = (none_once (display_of s).view.areas).0 (none_noted s p.0 (sym p.2 ∙ z))

      back : CellsOnce (display_of s).view.areas → (read_display s t).answer.later ≡ 0
      back once = ⊎_elim (λ e. p.2 ∙ e) (λ h. absurd ((none_once (display_of s).view.areas).1 once n.earlier n.later (display_noted s p.0 h).pair)) noted-or-not

  display-zeros : Displayed s t → (read_display s t).answer.later ≡ 0 → (read_display s t).answer.earlier ≡ 0
  display-zeros ok z = let p = display-noted-pair ok in p.1 ∙ ap (λ (o : Overlap). o.earlier) (none-overlap s (sym p.2 ∙ z))

  cells-once : Accepted s t → CellsOnce (sheet_of s).view.areas
  unfolding sheet_of
  cells-once ok = (none_once (display_of s).view.areas).0 (none_noted s (accepted_former s (accepted_sheet s t ok).0).1 (accepted-none s t ok))

pub overlap_theorem : (s : List ℕ) (t : Tables) → OverlapTheorem s t
overlap_theorem s t =
    record {
      cells_once = cells-once s t;
      first_pair = first-pair s t;
      no_pair = no-pair s t;
      display_former = display_former_lem s t;
      display_never = display-never s t;
      display_first = display-first s t;
      display_pair = display-pair s t;
      display_zeros = display-zeros s t;
    }
