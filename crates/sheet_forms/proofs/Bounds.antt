-- What a record that is read keeps to, so that whoever stores it needs no test: its numbers are in their ranges, its names in theirs,
-- and a fault has a number. Assumes nothing.
use Prim.Native.Nat.{ℕ, suc, ◌≤◌, ◌<◌}
use mathlib.Core.Path.{◌≡◌, refl}
use mathlib.Core.List.{List}
use mathlib.Core.Bool.{Bool, true, false, cond}
use mathlib.Core.Logic.{⊎_elim}
use native.Mathlib.Omega.{arith}
use lib.Dec.{eqb, ltb, leb}
use lib.ListN.{length, drop}
use borrow.Author.Tests.{eq-eqb, ne_eqb, eqb-false, leb-false, ltb-false}
use Rattle.text.specs.Split.{index}
use Rattle.sheet_forms.specs.Said.{Record}
use Rattle.sheet_forms.specs.Said.{Fault, Axis, Area, Name, Track, Repeat, End, Spare, Extra, Item, Place, PictureRow, Cell}
use Rattle.sheet_forms.specs.Said.{RepeatRecord}
use Rattle.sheet_forms.specs.Answers.{AxisField}
use Rattle.sheet_forms.specs.Answers.{Field}
use Rattle.sheet_forms.specs.Answers.{SizeField}
use Rattle.sheet_forms.specs.Answers.{InnerField}
use Rattle.sheet_forms.specs.declared.Position.TheVariants.{Minimum, Maximum, Gap}
use Rattle.sheet_forms.specs.Answers.{EndField}
use Rattle.sheet_forms.specs.Words.{at, rule_words}
use Rattle.sheet_forms.specs.Faults.{first_of}
use Rattle.sheet_forms.specs.Fields.{axis_of, rule_of, count_of, repetition_of, name_fault, row_fault}
use Rattle.sheet_forms.specs.Sizes.{inner_of, size_of}
use Rattle.sheet_forms.specs.Ends.{end_of, cell_end_of}
use Rattle.sheet_forms.specs.Records.{unless, made_axis, edges_of, made_area, made_name, made_sizes, made_repeat, made_end, made_extra, made_item, made_place, made_cell, axis_line, area_line, name_line, sizes_line, repeat_line, end_line, extra_line, item_line, place_line, row_line, cell_line}
use Rattle.sheet_forms.specs.Forms.{InNameRange, Kind, axis, area, name, track, repeat, end, spare, extra, item, place, row, cell}
use Rattle.sheet_forms.proofs.Codes.{count_most}
use Rattle.sheet_forms.proofs.Firsts.{none_or_some, first_zero}
use Rattle.sheet_forms.proofs.LineFaults.{line_of}
use Rattle.sheet_forms.proofs.WordRows.{RowBounded, row_bounded}
use Rattle.sheet_forms.proofs.FieldBounds.{EndBounded, RepeatBounded, word-most, name-good, count_least, repetition_bounded, end_bounded}

pub record AreaBounded (f : List ℕ) (a b c d : ℕ) : Type 0 where
  pub named : InNameRange f
  pub rows : (1 ≤ a) × (a < b) × (b ≤ 10001)
  pub columns : (1 ≤ c) × (c < d) × (d ≤ 10001)

-- a record with the fields of its line
abbrev pub Bounded : List (List ℕ) → Record → Type 0
Bounded fs (Fault n) = n ≡ 0 → ⊥
Bounded fs (Axis a) = a.rule ≤ 1
Bounded fs (Area a) = AreaBounded (at fs 1) a.rowstart a.rowend a.columnstart a.columnend
Bounded fs (Name a) = InNameRange (at fs 2)
Bounded fs (Track a min max) = Unit {0}
Bounded fs (Repeat a n) = RepeatBounded n
Bounded fs (End a) = Unit {0}
Bounded fs (Spare a min max) = Unit {0}
Bounded fs (Extra a n p) = (n ≤ 10000) × (p ≤ 10000)
Bounded fs (Item a i) = i ≤ 29999
Bounded fs (Place a s e) = EndBounded (at fs 3) s × EndBounded (at fs 6) e
Bounded fs (PictureRow n) = RowBounded (drop 1 fs) n
Bounded fs (Cell cs ce rs re) = (EndBounded (at fs 2) cs × EndBounded (at fs 5) ce) × (EndBounded (at fs 8) rs × EndBounded (at fs 11) re)

unless_bounded : (fs : List (List ℕ)) (n : ℕ) (r : Record) → (n ≡ 0 → Bounded fs r) → Bounded fs (unless n r)
unless_bounded fs n r h = ⊎_elim (λ e. rw (eq-eqb n 0 e) (h e)) (λ k. rw (ne_eqb n 0 k) k) (none_or_some n)

some : (n m : ℕ) → n ≡ suc m → n ≡ 0 → ⊥
some n m e z = omega arith

pub fault_one : ◌≡◌ {A = ℕ} 1 0 → ⊥
fault_one = some 1 0 refl

fields_bounded : (fs : List (List ℕ)) (t : Bool) (r : Record) → Bounded fs r → Bounded fs (cond t r (Fault 1))
fields_bounded fs true r h = h
fields_bounded fs false r h = fault_one

axis_bounded : (fs : List (List ℕ)) (a : AxisField) (i : InnerField) (r : Field) (g : SizeField) → r.value ≤ 1 → Bounded fs (made_axis a i r g)
axis_bounded fs a i r g h =
    unless_bounded fs (first_of a.fault (first_of i.fault (first_of r.fault g.fault)))
    (Axis (record { axis = a.axis; definite = i.definite; inner = i.bits; rule = r.value; gap = g.word })) (λ z. h)

edges_bounded : (fs : List (List ℕ)) (a b c d : ℕ) → InNameRange (at fs 1) → 1 ≤ a → b ≤ 10001 → 1 ≤ c → d ≤ 10001 → Bounded fs (edges_of a b c d)
edges_bounded fs a b c d n p q r s = go (leb b a) (leb d c) refl refl
  where
    go : (t u : Bool) → leb b a ≡ t → leb d c ≡ u
        → Bounded fs (cond t (Fault 5) (cond u (Fault 5) (Area (record { rowstart = a; rowend = b; columnstart = c; columnend = d }))))
    go true u x y = some 5 4 refl
    go false true x y = some 5 4 refl
    go false false x y = record { named = n; rows = (p, leb-false b a x, q); columns = (r, leb-false d c y, s) }

area_bounded : (fs : List (List ℕ)) (n : ℕ) (a b c d : Field) → (n ≡ 0 → InNameRange (at fs 1)) → (a.fault ≡ 0 → 1 ≤ a.value) → b.value ≤ 10001
    → (c.fault ≡ 0 → 1 ≤ c.value) → d.value ≤ 10001 → Bounded fs (made_area n a b c d)
area_bounded fs n a b c d m p q r s =
    unless_bounded fs (first_of n (first_of a.fault (first_of b.fault (first_of c.fault d.fault)))) (edges_of a.value b.value c.value d.value)
    (λ z.
    let z1 = first_zero n (first_of a.fault (first_of b.fault (first_of c.fault d.fault))) z in
    let z2 = first_zero a.fault (first_of b.fault (first_of c.fault d.fault)) z1.1 in
    let z3 = first_zero b.fault (first_of c.fault d.fault) z2.1 in
    let z4 = first_zero c.fault d.fault z3.1 in
    edges_bounded fs a.value b.value c.value d.value (m z1.0) (p z2.0) q (r z4.0) s)

name_bounded : (fs : List (List ℕ)) (a : AxisField) (n : ℕ) → (n ≡ 0 → InNameRange (at fs 2)) → Bounded fs (made_name a n)
name_bounded fs a n h = unless_bounded fs (first_of a.fault n) (Name a.axis) (λ z. h (first_zero a.fault n z).1)

sizes_bounded : (fs : List (List ℕ)) (spare : Bool) (a : AxisField) (min max : SizeField) → Bounded fs (made_sizes spare a min max)
sizes_bounded fs true a min max = unless_bounded fs (first_of a.fault (first_of min.fault max.fault)) (Spare a.axis min.word max.word) (λ z. tt)
sizes_bounded fs false a min max = unless_bounded fs (first_of a.fault (first_of min.fault max.fault)) (Track a.axis min.word max.word) (λ z. tt)

repeat_bounded : (fs : List (List ℕ)) (a : AxisField) (n : RepeatRecord) → ((n.fault ≡ 1 → ⊥) → RepeatBounded n) → Bounded fs (made_repeat a n)
repeat_bounded fs a n h = unless_bounded fs a.fault (cond (eqb n.fault 1) (Fault 1) (Repeat a.axis n)) (λ z. go (eqb n.fault 1) refl)
  where
    go : (t : Bool) → eqb n.fault 1 ≡ t → Bounded fs (cond t (Fault 1) (Repeat a.axis n))
    go true e = fault_one
    go false e = h (eqb-false n.fault 1 e)

closed_bounded : (fs : List (List ℕ)) (a : AxisField) → Bounded fs (made_end a)
closed_bounded fs a = unless_bounded fs a.fault (End a.axis) (λ z. tt)

extra_bounded : (fs : List (List ℕ)) (a : AxisField) (n p : Field) → n.value ≤ 10000 → p.value ≤ 10000 → Bounded fs (made_extra a n p)
extra_bounded fs a n p h k = unless_bounded fs (first_of a.fault (first_of n.fault p.fault)) (Extra a.axis n.value p.value) (λ z. (h, k))

item_bounded : (fs : List (List ℕ)) (a : AxisField) (i : Field) → i.value ≤ 29999 → Bounded fs (made_item a i)
item_bounded fs a i h = unless_bounded fs (first_of a.fault i.fault) (Item a.axis i.value) (λ z. h)

place_bounded : (fs : List (List ℕ)) (a : AxisField) (s e : EndField) → (s.fault ≡ 0 → EndBounded (at fs 3) s.end) → (e.fault ≡ 0 → EndBounded (at fs 6) e.end)
    → Bounded fs (made_place a s e)
place_bounded fs a s e h k =
    unless_bounded fs (first_of a.fault (first_of s.fault e.fault)) (Place a.axis s.end e.end)
    (λ z. let y = first_zero s.fault e.fault (first_zero a.fault (first_of s.fault e.fault) z).1 in (h y.0, k y.1))

cell_bounded : (fs : List (List ℕ)) (cs ce rs re : EndField) → (cs.fault ≡ 0 → EndBounded (at fs 2) cs.end) → (ce.fault ≡ 0 → EndBounded (at fs 5) ce.end)
    → (rs.fault ≡ 0 → EndBounded (at fs 8) rs.end) → (re.fault ≡ 0 → EndBounded (at fs 11) re.end) → Bounded fs (made_cell cs ce rs re)
cell_bounded fs cs ce rs re h k l m =
    unless_bounded fs (first_of cs.fault (first_of ce.fault (first_of rs.fault re.fault))) (Cell cs.end ce.end rs.end re.end)
    (λ z.
    let z1 = first_zero cs.fault (first_of ce.fault (first_of rs.fault re.fault)) z in
    let z2 = first_zero ce.fault (first_of rs.fault re.fault) z1.1 in
    let z3 = first_zero rs.fault re.fault z2.1 in
    ((h z1.0, k z2.0), (l z3.0, m z3.1)))

-- an end of a placement, and of a cell
place-end-bounded : (f n m : List ℕ) → (end_of f n m).fault ≡ 0 → EndBounded n (end_of f n m).end
place-end-bounded = end_bounded 0 65535 (omega arith)

cell-end-bounded : (f n m : List ℕ) → (cell_end_of f n m).fault ≡ 0 → EndBounded n (cell_end_of f n m).end
cell-end-bounded = end_bounded 1 32 (omega arith)

rule_most : (f : List ℕ) → (rule_of f).value ≤ 1
unfolding rule_of
rule_most f = word-most 1 (index f rule_words)

pub line_bounded : (k : Kind) (fs : List (List ℕ)) → Bounded fs (line_of k fs)
unfolding axis_line area_line name_line sizes_line repeat_line end_line extra_line item_line place_line row_line cell_line
line_bounded axis fs =
    let a = axis_of (at fs 1) in
    let i = inner_of (at fs 2) in
    let r = rule_of (at fs 3) in
    let g = size_of Gap (at fs 4) (at fs 5) in
    fields_bounded fs (eqb (length fs) 6) (made_axis a i r g) (axis_bounded fs a i r g (rule_most (at fs 3)))
line_bounded area fs =
    let n = name_fault (at fs 1) in
    let a = count_of 1 10001 (at fs 2) in
    let b = count_of 1 10001 (at fs 3) in
    let c = count_of 1 10001 (at fs 4) in
    let d = count_of 1 10001 (at fs 5) in
    fields_bounded fs (eqb (length fs) 6) (made_area n a b c d)
    (area_bounded fs n a b c d (name-good (at fs 1)) (count_least 1 10001 (at fs 2)) (count_most 1 10001 (at fs 3)) (count_least 1 10001 (at fs 4)) (count_most 1 10001 (at fs 5)))
line_bounded name fs =
    let a = axis_of (at fs 1) in
    let n = name_fault (at fs 2) in
    fields_bounded fs (eqb (length fs) 3) (made_name a n) (name_bounded fs a n (name-good (at fs 2)))
line_bounded track fs =
    let a = axis_of (at fs 1) in
    let l = size_of Minimum (at fs 2) (at fs 3) in
    let m = size_of Maximum (at fs 4) (at fs 5) in
    fields_bounded fs (eqb (length fs) 6) (made_sizes false a l m) (sizes_bounded fs false a l m)
line_bounded repeat fs =
    let a = axis_of (at fs 1) in
    let n = repetition_of (at fs 2) in
    fields_bounded fs (eqb (length fs) 3) (made_repeat a n) (repeat_bounded fs a n (repetition_bounded (at fs 2)))
line_bounded end fs = let a = axis_of (at fs 1) in fields_bounded fs (eqb (length fs) 2) (made_end a) (closed_bounded fs a)
line_bounded spare fs =
    let a = axis_of (at fs 1) in
    let l = size_of Minimum (at fs 2) (at fs 3) in
    let m = size_of Maximum (at fs 4) (at fs 5) in
    fields_bounded fs (eqb (length fs) 6) (made_sizes true a l m) (sizes_bounded fs true a l m)
line_bounded extra fs =
    let a = axis_of (at fs 1) in
    let n = count_of 0 10000 (at fs 2) in
    let p = count_of 0 10000 (at fs 3) in
    fields_bounded fs (eqb (length fs) 4) (made_extra a n p) (extra_bounded fs a n p (count_most 0 10000 (at fs 2)) (count_most 0 10000 (at fs 3)))
line_bounded item fs =
    let a = axis_of (at fs 1) in
    let i = count_of 0 29999 (at fs 2) in
    fields_bounded fs (eqb (length fs) 3) (made_item a i) (item_bounded fs a i (count_most 0 29999 (at fs 2)))
line_bounded place fs =
    let a = axis_of (at fs 1) in
    let s = end_of (at fs 2) (at fs 3) (at fs 4) in
    let e = end_of (at fs 5) (at fs 6) (at fs 7) in
    fields_bounded fs (eqb (length fs) 8) (made_place a s e)
    (place_bounded fs a s e (place-end-bounded (at fs 2) (at fs 3) (at fs 4)) (place-end-bounded (at fs 5) (at fs 6) (at fs 7)))
line_bounded cell fs =
    let cs = cell_end_of (at fs 1) (at fs 2) (at fs 3) in
    let ce = cell_end_of (at fs 4) (at fs 5) (at fs 6) in
    let rs = cell_end_of (at fs 7) (at fs 8) (at fs 9) in
    let re = cell_end_of (at fs 10) (at fs 11) (at fs 12) in
    fields_bounded fs (eqb (length fs) 13) (made_cell cs ce rs re)
    (cell_bounded fs cs ce rs re
    (cell-end-bounded (at fs 1) (at fs 2) (at fs 3)) (cell-end-bounded (at fs 4) (at fs 5) (at fs 6))
    (cell-end-bounded (at fs 7) (at fs 8) (at fs 9)) (cell-end-bounded (at fs 10) (at fs 11) (at fs 12)))
line_bounded row fs = go (ltb (length fs) 2) refl
  where
    go : (t : Bool) → ltb (length fs) 2 ≡ t → Bounded fs (cond t (Fault 1) (unless (row_fault (drop 1 fs)) (PictureRow (length (drop 1 fs)))))
    go true q = fault_one
    go false q = unless_bounded fs (row_fault (drop 1 fs)) (PictureRow (length (drop 1 fs))) (row_bounded fs (ltb-false (length fs) 2 q))
