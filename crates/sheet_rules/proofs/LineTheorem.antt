-- A line is refused with the number of the row that holds there and comes first; it is accepted exactly if no row holds. Where overlap is no
-- fault, that row is left out. Assumes nothing.
use Prim.Native.Nat.{ℕ, ◌≤◌, ◌<◌}
use mathlib.Core.Path.{◌≡◌, refl, sym, ap, ◌∙◌, subst}
use mathlib.Core.List.{List}
use mathlib.Core.Bool.{Bool, true, false, cond}
use mathlib.Core.Logic.{◌⊎◌, inl, inr, ⊎_elim, ◌↔◌}
use native.Mathlib.Omega.{arith}
use lib.Dec.{eqb}
use borrow.Author.Tests.{eqb-true, eqb-false}
use Rattle.sheet_forms.specs.Said.{Record}
use Rattle.sheet_forms.specs.Said.{Fault, Axis as AxisLine, Area, Name, Track, Repeat, End, Spare, Extra, Item, Place, PictureRow, Cell}
use Rattle.sheet_forms.specs.Faults.{rank_of, first_of, no_row, first_row}
use Rattle.sheet_forms.specs.Records.{record_of, fault_of}
use Rattle.sheet_forms.specs.Forms.{axis, area, name, track, repeat, end, spare, extra, item, place, row, cell}
use Rattle.sheet_forms.proofs.Firsts.{firsts-by, first-same, first-unique, first_none, first_left, first_joined, first_without}
use Rattle.sheet_forms.proofs.Bounds.{Bounded}
use Rattle.sheet_forms.proofs.Theorem.{record_bounded}
use Rattle.panel_tables.specs.View.{PanelView, refused, accepted}
use Rattle.sheet_rules.specs.Lines.{late_at, record_step, twice_fault, late_fault, shared_with, overlap_fault, record_fault, strict_fault, line_fault, shared_at, record_outcome, line_step}
use Rattle.sheet_rules.specs.Rows.{MisnestedBy, AtKind, Row, unread, bad_name, bad_value, bad_count, bad_area, twice, late, crowded, overlap, unequal, broken, number_of, Holds, First}
use Rattle.sheet_rules.proofs.LineFields.{record_reads, Reads}
use Rattle.sheet_rules.proofs.Says.{Says, record_says}
use Rattle.sheet_rules.proofs.Only.{OwnRows, own_first, some_number}
use Rattle.sheet_rules.proofs.LineRows.{late_yes, IsRecord, TwiceRow, LateRow, OverlapRow, StepRow, twice-first, late-first, overlap-first, step-first}

-- a place in the kind order is not late after itself
never-late : (n : ℕ) → late_at n n ≡ false
never-late n = go (late_at n n) refl
  where
    go : (t : Bool) → late_at n n ≡ t → t ≡ false
    go true e = absurd (⊎_elim (λ l. omega (arith, l)) (λ (p, q). omega (arith, p, q)) (late_yes n n e))
    go false e = refl

module _ (v : PanelView) (fs : List (List ℕ)) where
  -- ---- a line that is a record

  abbrev AllRows : Row → Type 0
  AllRows r = (OwnRows fs r ⊎ (TwiceRow v fs r ⊎ LateRow v fs r)) ⊎ (OverlapRow v fs r ⊎ StepRow v fs r)

  own-to : (r : Row) → OwnRows fs r → Holds v fs r
  own-to unread x = inl x
  own-to bad_name x = x
  own-to bad_value x = x
  own-to bad_count x = x
  own-to bad_area x = x
  own-to twice x = absurd x
  own-to late x = absurd x
  own-to crowded x = absurd x
  own-to overlap x = absurd x
  own-to unequal x = absurd x
  own-to broken x = absurd x

  all_to : (r : Row) → AllRows r → Holds v fs r
  all_to r (inl (inl x)) = own-to r x
  all_to r (inl (inr (inl (e, x)))) = subst (Holds v fs) (sym e) x
  all_to r (inl (inr (inr (e, x)))) = subst (Holds v fs) (sym e) x
  all_to r (inr (inl (e, x))) = subst (Holds v fs) (sym e) x
  all_to r (inr (inr (inl (e, x)))) = subst (Holds v fs) (sym e) (inr x)
  all_to r (inr (inr (inr (inl (e, x))))) = subst (Holds v fs) (sym e) x
  all_to r (inr (inr (inr (inr (e, x))))) = subst (Holds v fs) (sym e) x

  all-not : (r : Row) → (AllRows r → ⊥) → Holds v fs r → ⊥
  all-not unread h (inl x) = h (inl (inl x))
  all-not unread h (inr x) = h (inr (inr (inl (refl, x))))
  all-not bad_name h x = h (inl (inl x))
  all-not bad_value h x = h (inl (inl x))
  all-not bad_count h x = h (inl (inl x))
  all-not bad_area h x = h (inl (inl x))
  all-not twice h x = h (inl (inr (inl (refl, x))))
  all-not late h x = h (inl (inr (inr (refl, x))))
  all-not crowded h x = h (inr (inr (inr (inl (refl, x)))))
  all-not overlap h x = h (inr (inl (refl, x)))
  all-not unequal h x = h (inr (inr (inr (inr (refl, x)))))
  all-not broken h x = x

  record-row : (r : Record) → record_of fs ≡ r → IsRecord r → First (Holds v fs) (strict_fault v fs r)
  unfolding strict_fault
  record-row r e i =
      let says = subst (Says fs) e (record_says fs) in
      let bounded = subst (Bounded fs) e (record_bounded fs) in
      let reads = subst (Reads fs) e (record_reads fs) in
      first-same all_to all-not
      (firsts-by some_number
      (firsts-by some_number (subst (λ (x : Record). First (OwnRows fs) (fault_of x)) e (own_first fs))
      (firsts-by some_number (twice-first v fs r i says) (late-first v fs r i says)))
      (firsts-by some_number (overlap-first v fs r i says reads) (step-first v fs r i says bounded)))

  -- ---- a line that is none

  fault-fault : (n : ℕ) → strict_fault v fs (Fault n) ≡ n
  unfolding strict_fault record_step first_of
  fault-fault n = rw (never-late v.stage) (first_none (first_of n 0) ∙ first_none n)

  -- a line of those kinds that is none is unread
  not-misnested : (n : ℕ) → Says fs (Fault n) → (n ≡ 1 → ⊥) → AtKind MisnestedBy v fs → ⊥
  not-misnested n (r, e) h (axis, o, x) = x
  not-misnested n (r, e) h (area, o, x) = x
  not-misnested n (r, e) h (name, o, x) = x
  not-misnested n (r, e) h (track, o, x) = x
  not-misnested n (r, e) h (repeat, o, x) = h (r o)
  not-misnested n (r, e) h (end, o, x) = h (e o)
  not-misnested n (r, e) h (spare, o, x) = x
  not-misnested n (r, e) h (extra, o, x) = x
  not-misnested n (r, e) h (item, o, x) = x
  not-misnested n (r, e) h (place, o, x) = x
  not-misnested n (r, e) h (row, o, x) = x
  not-misnested n (r, e) h (cell, o, x) = x

  fault-row : (n : ℕ) → Says fs (Fault n) → (n ≡ 0 → ⊥) → First (OwnRows fs) n → First (Holds v fs) n
  unfolding rank_of
  fault-row n s z (no_row e h) = absurd (z e)
  fault-row n s z (first_row r e h l) = first_row r e (own-to r h) (lower r e h l)
    where
      few : (r : Row) → OwnRows fs r → rank_of (number_of r) ≤ rank_of 5
      few unread x = omega arith
      few bad_name x = omega arith
      few bad_value x = omega arith
      few bad_count x = omega arith
      few bad_area x = omega arith
      few twice x = absurd x
      few late x = absurd x
      few crowded x = absurd x
      few overlap x = absurd x
      few unequal x = absurd x
      few broken x = absurd x

      lower : (r : Row) → n ≡ number_of r → OwnRows fs r → ((q : Row) → rank_of (number_of q) < rank_of (number_of r) → OwnRows fs q → ⊥)
          → (q : Row) → rank_of (number_of q) < rank_of (number_of r) → Holds v fs q → ⊥
      lower r e h l unread m (inl x) = l unread m x
      lower r e h l unread m (inr x) = not-misnested n s (λ one. omega (arith, m, ap rank_of (sym e ∙ one))) x
      lower r e h l bad_name m x = l bad_name m x
      lower r e h l bad_value m x = l bad_value m x
      lower r e h l bad_count m x = l bad_count m x
      lower r e h l bad_area m x = l bad_area m x
      lower r e h l twice m x = omega (arith, m, few r h)
      lower r e h l late m x = omega (arith, m, few r h)
      lower r e h l crowded m x = omega (arith, m, few r h)
      lower r e h l overlap m x = omega (arith, m, few r h)
      lower r e h l unequal m x = omega (arith, m, few r h)
      lower r e h l broken m x = x

  -- ---- every line

  record-rows : (r : Record) → record_of fs ≡ r → First (Holds v fs) (strict_fault v fs r)
  record-rows (Fault n) e =
      rw (fault-fault n)
      (fault-row n (subst (Says fs) e (record_says fs)) (subst (Bounded fs) e (record_bounded fs))
      (subst (λ (x : Record). First (OwnRows fs) (fault_of x)) e (own_first fs)))
  record-rows (AxisLine a) e = record-row (AxisLine a) e tt
  record-rows (Area a) e = record-row (Area a) e tt
  record-rows (Name a) e = record-row (Name a) e tt
  record-rows (Track a min max) e = record-row (Track a min max) e tt
  record-rows (Repeat a n) e = record-row (Repeat a n) e tt
  record-rows (End a) e = record-row (End a) e tt
  record-rows (Spare a min max) e = record-row (Spare a min max) e tt
  record-rows (Extra a n p) e = record-row (Extra a n p) e tt
  record-rows (Item a i) e = record-row (Item a i) e tt
  record-rows (Place a s t) e = record-row (Place a s t) e tt
  record-rows (PictureRow n) e = record-row (PictureRow n) e tt
  record-rows (Cell cs ce rs re) e = record-row (Cell cs ce rs re) e tt

  pub outcome-fault : (r : Record) → (record_outcome v fs r).fault ≡ record_fault v fs r
  outcome-fault r = go (eqb (record_fault v fs r) 0) _ _ refl
    where
      go : (t : Bool) (x y : PanelView) → eqb (record_fault v fs r) 0 ≡ t → (cond t (accepted x) (refused (record_fault v fs r) y)).fault ≡ record_fault v fs r
      go true x y e = sym (eqb-true (record_fault v fs r) 0 e)
      go false x y e = refl

  pub line_first : First (Holds v fs) (line_fault v fs)
  unfolding line_fault
  line_first = record-rows (record_of fs) refl

  -- a line is refused with n exactly if n is the number of the row that holds there and comes first
  pub line-exactly : (n : ℕ) → (line_fault v fs ≡ n) ↔ First (Holds v fs) n
  line-exactly n = (λ e. subst (First (Holds v fs)) e line_first, first-unique line_first)

  -- ---- where overlap is no fault

  -- a line that isn't refused by 12 has the fault that it has there
  without : (r : Record) → (strict_fault v fs r ≡ 12 → ⊥) ⊎ (shared_with v r ≡ 0) → strict_fault v fs r ≡ record_fault v fs r
  unfolding strict_fault record_fault
  without r h = middle h (eqb (shared_with v r) 0) refl ∙ grouped
    where
      a : ℕ
      a = first_of (fault_of r) (first_of (twice_fault v fs r) (late_fault v r))

      d : ℕ
      d = (record_step v fs r).fault

      grouped : first_of a d ≡ first_of (fault_of r) (first_of (twice_fault v fs r) (first_of (late_fault v r) d))
      grouped = first_joined (fault_of r) (first_of (twice_fault v fs r) (late_fault v r)) d ∙ ap (first_of (fault_of r)) (first_joined (twice_fault v fs r) (late_fault v r) d)

      middle : (first_of a (first_of (overlap_fault v r) d) ≡ 12 → ⊥) ⊎ (shared_with v r ≡ 0) → (t : Bool) → eqb (shared_with v r) 0 ≡ t → first_of a (first_of (cond t 0 12) d) ≡ first_of a d
      middle y true e = ap (first_of a) (first_left 0 d refl)
      middle (inl y) false e = first_without a 12 d (λ z. y (ap (λ (b : Bool). first_of a (first_of (cond b 0 12) d)) e ∙ z))
      middle (inr y) false e = absurd (eqb-false (shared_with v r) 0 e y)

  -- no overlap is noted: the line has its former fault
  pub line-former : shared_at v fs ≡ 0 → line_fault v fs ≡ (line_step v fs).fault
  unfolding shared_at line_fault line_step
  line-former = go (eqb (strict_fault v fs (record_of fs)) 12) refl
    where
      go : (t : Bool) → eqb (strict_fault v fs (record_of fs)) 12 ≡ t → cond t (shared_with v (record_of fs)) 0 ≡ 0 → strict_fault v fs (record_of fs) ≡ (record_outcome v fs (record_of fs)).fault
      go true e z = without (record_of fs) (inr z) ∙ sym (outcome-fault (record_of fs))
      go false e z = without (record_of fs) (inl (eqb-false (strict_fault v fs (record_of fs)) 12 e)) ∙ sym (outcome-fault (record_of fs))

  -- one is: the line is refused by 12
  pub line-overlap : (shared_at v fs ≡ 0 → ⊥) → line_fault v fs ≡ 12
  unfolding shared_at
  line-overlap = go (eqb (line_fault v fs) 12) refl
    where
      go : (t : Bool) → eqb (line_fault v fs) 12 ≡ t → (cond t (shared_with v (record_of fs)) 0 ≡ 0 → ⊥) → line_fault v fs ≡ 12
      go true e z = eqb-true (line_fault v fs) 12 e
      go false e z = absurd (z refl)
