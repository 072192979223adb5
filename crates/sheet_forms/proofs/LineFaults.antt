-- The record of a line by its kind, and the fault that it says. Assumes nothing.
use Prim.Native.Nat.{ℕ, ◌≤◌}
use mathlib.Core.Path.{◌≡◌, refl, sym, ap, ◌∙◌}
use mathlib.Core.List.{List, []}
use mathlib.Core.Bool.{Bool, true, false, cond}
use mathlib.Core.Logic.{◌⊎◌, inl, inr, ⊎_elim}
use native.Mathlib.Omega.{arith}
use lib.Dec.{eqb, ltb}
use lib.ListN.{length, get_or, drop}
use borrow.Author.Tests.{eq-eqb, ne_eqb, eqb-true, eqb-false, le-ltb, ltb-true, ltb-false}
use Rattle.text.specs.Split.{index}
use Rattle.sheet_forms.specs.Said.{Record}
use Rattle.sheet_forms.specs.Said.{Fault, Repeat, PictureRow}
use Rattle.sheet_forms.specs.Said.{RepeatRecord}
use Rattle.sheet_forms.specs.Answers.{AxisField}
use Rattle.sheet_forms.specs.Words.{at, kind_words}
use Rattle.sheet_forms.specs.Faults.{first_of, no_row, first_row}
use Rattle.sheet_forms.specs.Fields.{axis_of, repetition_of, row_fault}
use Rattle.sheet_forms.specs.Records.{unless, axis_line, area_line, name_line, sizes_line, made_repeat, repeat_line, end_line, extra_line, item_line, place_line, row_line, cell_line, fixed_kind, by_kind, record_of, fault_of}
use Rattle.sheet_forms.specs.Forms.{Kind, axis, area, name, track, repeat, end, spare, extra, item, place, row, cell, kind_number, Fields, parts_of}
use Rattle.sheet_forms.specs.Rows.{Row, unread, bad_name, bad_value, bad_count, bad_area, First}
use Rattle.sheet_forms.proofs.Firsts.{first_left, first_one, first_none, none_or_some}
use Rattle.sheet_forms.proofs.PartRows.{axis_first}
use Rattle.sheet_forms.proofs.LineRows.{faults, word-index}

-- ---- the record of a line, by its kind

abbrev pub line_of : Kind → List (List ℕ) → Record
line_of axis fs = axis_line fs
line_of area fs = area_line fs
line_of name fs = name_line fs
line_of track fs = sizes_line false fs
line_of repeat fs = repeat_line fs
line_of end fs = end_line fs
line_of spare fs = sizes_line true fs
line_of extra fs = extra_line fs
line_of item fs = item_line fs
line_of place fs = place_line fs
line_of row fs = row_line fs
line_of cell fs = cell_line fs

by_number_lem : (k : Kind) (fs : List (List ℕ)) → by_kind (kind_number k) fs ≡ line_of k fs
unfolding by_kind fixed_kind
by_number_lem axis fs = refl
by_number_lem area fs = refl
by_number_lem name fs = refl
by_number_lem track fs = refl
by_number_lem repeat fs = refl
by_number_lem end fs = refl
by_number_lem spare fs = refl
by_number_lem extra fs = refl
by_number_lem item fs = refl
by_number_lem place fs = refl
by_number_lem row fs = refl
by_number_lem cell fs = refl

pub line_record : (k : Kind) (fs : List (List ℕ)) → at fs 0 ≡ get_or kind_words (kind_number k) [] → record_of fs ≡ line_of k fs
unfolding record_of
line_record k fs e = ap (λ (i : ℕ). by_kind i fs) (word-index fs k e) ∙ by_number_lem k fs

pub no_record : (fs : List (List ℕ)) → 12 ≤ index (at fs 0) kind_words → record_of fs ≡ Fault 1
unfolding record_of by_kind fixed_kind
no_record fs h =
    let i = index (at fs 0) kind_words in
    rw (
      ne_eqb i 0 (λ e. omega arith),
      ne_eqb i 1 (λ e. omega arith),
      ne_eqb i 2 (λ e. omega arith),
      ne_eqb i 3 (λ e. omega arith),
      ne_eqb i 4 (λ e. omega arith),
      ne_eqb i 5 (λ e. omega arith),
      ne_eqb i 6 (λ e. omega arith),
      ne_eqb i 7 (λ e. omega arith),
      ne_eqb i 8 (λ e. omega arith),
      ne_eqb i 9 (λ e. omega arith),
      ne_eqb i 10 (λ e. omega arith),
      ne_eqb i 11 (λ e. omega arith),
    )

-- ---- its fault

equal_or : (n m : ℕ) → (n ≡ m) ⊎ (n ≡ m → ⊥)
equal_or n m = go (eqb n m) refl
  where
    go : (t : Bool) → eqb n m ≡ t → (n ≡ m) ⊎ (n ≡ m → ⊥)
    go true q = inl (eqb-true n m q)
    go false q = inr (eqb-false n m q)

fault_unless : (n : ℕ) (r : Record) → fault_of r ≡ 0 → fault_of (unless n r) ≡ n
fault_unless n r z = ⊎_elim (λ e. rw (eq-eqb n 0 e) (z ∙ sym e)) (λ h. rw (ne_eqb n 0 h)) (none_or_some n)

-- a line with too few or too many fields is unread
pub short-line : (k : Kind) (fs : List (List ℕ)) → (Fields k (length fs) → ⊥) → fault_of (line_of k fs) ≡ 1
unfolding axis_line area_line name_line sizes_line repeat_line end_line extra_line item_line place_line row_line cell_line
short-line axis fs h = rw (ne_eqb (length fs) 6 h)
short-line area fs h = rw (ne_eqb (length fs) 6 h)
short-line name fs h = rw (ne_eqb (length fs) 3 h)
short-line track fs h = rw (ne_eqb (length fs) 6 h)
short-line repeat fs h = rw (ne_eqb (length fs) 3 h)
short-line end fs h = rw (ne_eqb (length fs) 2 h)
short-line spare fs h = rw (ne_eqb (length fs) 6 h)
short-line extra fs h = rw (ne_eqb (length fs) 4 h)
short-line item fs h = rw (ne_eqb (length fs) 3 h)
short-line place fs h = rw (ne_eqb (length fs) 8 h)
short-line cell fs h = rw (ne_eqb (length fs) 13 h)
short-line row fs h = go (ltb (length fs) 2) refl
  where
    go : (t : Bool) → ltb (length fs) 2 ≡ t → fault_of (cond t (Fault 1) (unless (row_fault (drop 1 fs)) (PictureRow (length (drop 1 fs))))) ≡ 1
    go true q = refl
    go false q = absurd (h (ltb-false (length fs) 2 q))

axis_fault_lem : (i : ℕ) {A : Row → Type 0} → (A bad_name → ⊥) → (A bad_value → ⊥) → (A bad_count → ⊥) → (A bad_area → ⊥) → First A i → (i ≡ 0) ⊎ (i ≡ 1)
axis_fault_lem i u v w x (no_row e h) = inl e
axis_fault_lem i u v w x (first_row unread e h l) = inr e
axis_fault_lem i u v w x (first_row bad_name e h l) = absurd (u h)
axis_fault_lem i u v w x (first_row bad_value e h l) = absurd (v h)
axis_fault_lem i u v w x (first_row bad_count e h l) = absurd (w h)
axis_fault_lem i u v w x (first_row bad_area e h l) = absurd (x h)

repeat_fault : (a : AxisField) (n : RepeatRecord) → (a.fault ≡ 0) ⊎ (a.fault ≡ 1) → fault_of (made_repeat a n) ≡ first_of a.fault n.fault
repeat_fault a n (inl e) = rw (eq-eqb a.fault 0 e) (go (eqb n.fault 1) refl ∙ sym (first_left a.fault n.fault e))
  where
    go : (t : Bool) → eqb n.fault 1 ≡ t → fault_of (cond t (Fault 1) (Repeat a.axis n)) ≡ n.fault
    go true q = sym (eqb-true n.fault 1 q)
    go false q = refl
repeat_fault a n (inr e) = rw (ne_eqb a.fault 0 (λ z. omega arith)) (e ∙ sym (first_one a.fault n.fault e))

-- the fault of a line other than an area's
pub line_fault_lem : (k : Kind) (fs : List (List ℕ)) → (k ≡ area → ⊥) → Fields k (length fs) → fault_of (line_of k fs) ≡ faults fs (parts_of k)
unfolding axis_line name_line sizes_line repeat_line end_line extra_line item_line place_line row_line cell_line
line_fault_lem axis fs a e = rw (eq-eqb (length fs) 6 e, first_none) (fault_unless _ _ refl)
line_fault_lem area fs a e = absurd (a refl)
line_fault_lem name fs a e = rw (eq-eqb (length fs) 3 e, first_none) (fault_unless _ _ refl)
line_fault_lem track fs a e = rw (eq-eqb (length fs) 6 e, first_none) (fault_unless _ _ refl)
line_fault_lem repeat fs a e =
    rw (eq-eqb (length fs) 3 e, first_none)
    (repeat_fault (axis_of (at fs 1)) (repetition_of (at fs 2)) (axis_fault_lem _ (λ x. x) (λ x. x) (λ x. x) (λ x. x) (axis_first fs 1)))
line_fault_lem end fs a e = rw (eq-eqb (length fs) 2 e, first_none) (fault_unless _ _ refl)
line_fault_lem spare fs a e = rw (eq-eqb (length fs) 6 e, first_none) (fault_unless _ _ refl)
line_fault_lem extra fs a e = rw (eq-eqb (length fs) 4 e, first_none) (fault_unless _ _ refl)
line_fault_lem item fs a e = rw (eq-eqb (length fs) 3 e, first_none) (fault_unless _ _ refl)
line_fault_lem place fs a e = rw (eq-eqb (length fs) 8 e, first_none) (fault_unless _ _ refl)
line_fault_lem cell fs a e = rw (eq-eqb (length fs) 13 e, first_none) (fault_unless _ _ refl)
line_fault_lem row fs a e = rw (le-ltb (length fs) 2 e, first_none) (fault_unless _ _ refl)

-- whether a line has the fields of a kind
pub fields-or : (k : Kind) (n : ℕ) → Fields k n ⊎ (Fields k n → ⊥)
fields-or axis n = equal_or n 6
fields-or area n = equal_or n 6
fields-or name n = equal_or n 3
fields-or track n = equal_or n 6
fields-or repeat n = equal_or n 3
fields-or end n = equal_or n 2
fields-or spare n = equal_or n 6
fields-or extra n = equal_or n 4
fields-or item n = equal_or n 3
fields-or place n = equal_or n 8
fields-or cell n = equal_or n 13
fields-or row n = go (ltb n 2) refl
  where
    go : (t : Bool) → ltb n 2 ≡ t → (2 ≤ n) ⊎ (2 ≤ n → ⊥)
    go true q = inr (λ h. omega (arith, ltb-true n 2 q))
    go false q = inl (ltb-false n 2 q)
