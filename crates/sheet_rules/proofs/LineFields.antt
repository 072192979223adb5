-- The record of a line holds what its fields write. Assumes nothing.
use Prim.Native.Nat.{ℕ, suc}
use mathlib.Core.Path.{◌≡◌, refl, sym, ap, ◌∙◌, subst}
use mathlib.Core.List.{List, []}
use mathlib.Core.Bool.{Bool, true, false, cond}
use mathlib.Core.Logic.{⊎_elim}
use native.Mathlib.Omega.{arith}
use lib.Dec.{eqb, leb, ltb}
use lib.IntN.{pos, negsuc}
use lib.ListN.{length, get_or, drop}
use borrow.Author.Tests.{eq-eqb, ne_eqb}
use Rattle.sizing.specs.Ranges.{value_in_range, length_in_range}
use Rattle.sizing.specs.Words.{size_word_of}
use Rattle.text.specs.Split.{same, index}
use Rattle.text.proofs.Which.{same_equal}
use Rattle.text.specs.Whole.{Written, none as unwritten, whole, whole_of, digits_of, natural_of, non_negative, count_in as count_within, index_in}
use Rattle.text.specs.Hexadecimal.{bits_of}
use Rattle.std.specs.Prelude.{Option, Some, None, Ok, Err}
use Rattle.text.specs.declared.NumberFault.TheVariants.{Outside}
use Rattle.sheet_forms.specs.Answers.{NumberField}
use Rattle.sheet_forms.specs.Said.{Record}
use Rattle.sheet_forms.specs.Said.{Fault, Axis as AxisLine, Area, Name, Track, Repeat, End, Spare, Extra, Item, Place, PictureRow, Cell}
use Rattle.sheet_forms.specs.Said.{RepeatRecord}
use Rattle.sheet_forms.specs.Said.{AxisRecord}
use Rattle.sheet_forms.specs.Said.{PlaceEnd}
use Rattle.sheet_forms.specs.declared.Position.{Position}
use Rattle.sheet_forms.specs.declared.Position.TheVariants.{Minimum, Maximum, Gap}
use Rattle.sheet_forms.specs.Answers.{Field}
use Rattle.sheet_forms.specs.Answers.{AxisField}
use Rattle.sheet_forms.specs.Answers.{SizeField}
use Rattle.sheet_forms.specs.Answers.{InnerField}
use Rattle.sheet_forms.specs.Words.{at, dash, nought, kind_words, size_words, rule_words, repeat_words, end_words}
use Rattle.sheet_forms.specs.Faults.{first_of}
use Rattle.sheet_forms.specs.Fields.{good, faulty, word_of, count_field, axis_of, rule_of, count_of, repetition_of, repetition_at, name_fault, row_fault}
use Rattle.sheet_forms.specs.Sizes.{allowed_at, faulty_size, size_field, size_of, kind_of, inner_field, no_inner, some_inner, inner_of}
use Rattle.sheet_forms.specs.Ends.{end_kind, end_name, end_number, index_field, faulty_number, span_field, unused_number, end_within, end_of, cell_end_of}
use Rattle.sheet_forms.specs.Records.{unless, edges_of, made_axis, made_area, made_name, made_sizes, made_repeat, made_end, made_extra, made_item, made_place, made_cell, axis_line, area_line, name_line, sizes_line, repeat_line, end_line, extra_line, item_line, place_line, row_line, cell_line, record_of}
use Rattle.sheet_forms.specs.Forms.{Kind, axis, area, name, track, repeat, end, spare, extra, item, place, row, cell}
use Rattle.sheet_forms.proofs.Firsts.{none_or_some, first_zero}
use Rattle.sheet_forms.proofs.FieldRows.{below_or}
use Rattle.sheet_forms.proofs.LineRows.{kind_at, number_back_lem}
use Rattle.sheet_forms.proofs.LineFaults.{line_of, line_record, no_record}
use Rattle.text.proofs.Which.{index_word}
use Rattle.axis_tables.specs.View.{repeat_kind}
use Rattle.sheet_rules.specs.Lines.{bit, edges_of as area_edges}
use Rattle.sheet_rules.specs.Contents.{Line, whole_by, whole_in, count_by, count_in, bits_by, bits_in, size_in, area_in, repeat_kind_in}

-- ---- one field

pub not-zero : (n : ℕ) → suc n ≡ 0 → ⊥
not-zero n e = omega arith

word_value : (n i : ℕ) → (word_of n i).fault ≡ 0 → (word_of n i).value ≡ i
word_value n i = go (ltb i n)
  where
    go : (t : Bool) → (cond t (good i) (faulty 1)).fault ≡ 0 → (cond t (good i) (faulty 1)).value ≡ i
    go true z = refl
    go false z = absurd (not-zero 0 z)

-- a count is the whole number that is written
count_by_lem : (least most : ℕ) (w : Written) → (count_field (count_within least most w)).fault ≡ 0 → whole_by w ≡ pos (count_field (count_within least most w)).value
unfolding count_within
count_by_lem least most unwritten = λ z. absurd (not-zero 0 z)
count_by_lem least most (whole (pos n)) = go (ltb n least) (ltb most n)
  where
    by : Bool → Bool → Field
    by t u = count_field (cond t (Err Outside) (cond u (Err Outside) (Ok n)))

    go : (t u : Bool) → (by t u).fault ≡ 0 → pos n ≡ pos (by t u).value
    go true u z = absurd (not-zero 3 z)
    go false true z = absurd (not-zero 3 z)
    go false false z = refl
count_by_lem least most (whole (negsuc k)) = λ z. absurd (not-zero 3 z)

count-whole : (least most : ℕ) (f : List ℕ) → (count_of least most f).fault ≡ 0 → whole_in f ≡ pos (count_of least most f).value
unfolding count_of whole_in
count-whole least most f = count_by_lem least most (whole_of f)

count-value : (least most : ℕ) (f : List ℕ) → (count_of least most f).fault ≡ 0 → (count_of least most f).value ≡ count_in f
count-value least most f z = sym (ap count_by (count-whole least most f z))

index_by : (w : Written) → (index_field (index_in w)).fault ≡ 0 → (index_field (index_in w)).value ≡ whole_by w
unfolding index_in
index_by unwritten = λ z. absurd (not-zero 0 z)
index_by (whole (pos n)) = go (ltb 32767 n)
  where
    by : Bool → NumberField
    by t = index_field (cond t (Err Outside) (Ok (pos n)))

    go : (t : Bool) → (by t).fault ≡ 0 → (by t).value ≡ pos n
    go true z = absurd (not-zero 3 z)
    go false z = refl
index_by (whole (negsuc k)) = go (ltb 32767 k)
  where
    by : Bool → NumberField
    by t = index_field (cond t (Err Outside) (Ok (negsuc k)))

    go : (t : Bool) → (by t).fault ≡ 0 → (by t).value ≡ negsuc k
    go true z = absurd (not-zero 3 z)
    go false z = refl

-- a size is its kind and its bits
size_by_lem : (p : Position) (i : ℕ) (b : Option ℕ) → (size_field p (word_of 8 i) b).fault ≡ 0 → (size_field p (word_of 8 i) b).word ≡ size_word_of i (bits_by b)
size_by_lem p i None = λ z. absurd (not-zero 0 z)
size_by_lem p i (Some n) = go (ltb i 8)
  where
    go : (t : Bool) → (size_field p (cond t (good i) (faulty 1)) (Some n)).fault ≡ 0 → (size_field p (cond t (good i) (faulty 1)) (Some n)).word ≡ size_word_of i n
    go false = λ z. absurd (not-zero 0 z)
    go true = kind (allowed_at p i) (value_in_range i n)
      where
        by : Bool → Bool → SizeField
        by u w = cond u (cond w (record { fault = 0; word = size_word_of i n }) (faulty_size 3)) (faulty_size 1)

        kind : (u w : Bool) → (by u w).fault ≡ 0 → (by u w).word ≡ size_word_of i n
        kind false w z = absurd (not-zero 0 z)
        kind true false z = absurd (not-zero 2 z)
        kind true true z = refl

size-value : (p : Position) (f g : List ℕ) → (size_of p f g).fault ≡ 0 → (size_of p f g).word ≡ size_in f g
unfolding size_of kind_of bits_in
size-value p f g = size_by_lem p (index f size_words) (bits_of g)

-- an inner size is its bits, and is none where `-` stands
pub record InnerReads (f : List ℕ) (i : InnerField) : Type 0 where
  pub definite : bit i.definite ≡ cond (same f dash) 0 1
  pub bits : i.bits ≡ bits_in f

inner-value : (f : List ℕ) → (inner_of f).fault ≡ 0 → InnerReads f (inner_of f)
unfolding inner_of bits_in bits_of
inner-value f = go (same f dash) refl
  where
    by : Option ℕ → Bool → InnerField
    by b t = cond t (no_inner 0) (inner_field b)

    no_bits : f ≡ dash → 0 ≡ bits_by (bits_of f)
    no_bits e = rw e

    read : (b : Option ℕ) → (inner_field b).fault ≡ 0 → (bit (inner_field b).definite ≡ 1) × ((inner_field b).bits ≡ bits_by b)
    read None = λ z. absurd (not-zero 0 z)
    read (Some n) = range (length_in_range n)
      where
        range : (t : Bool) → (cond t (some_inner n) (no_inner 3)).fault ≡ 0 → (bit (cond t (some_inner n) (no_inner 3)).definite ≡ 1) × ((cond t (some_inner n) (no_inner 3)).bits ≡ n)
        range true z = (refl, refl)
        range false z = absurd (not-zero 2 z)

    go : (t : Bool) → same f dash ≡ t → (by (bits_of f) t).fault ≡ 0 → InnerReads f (by (bits_of f) t)
    go true e z = record { definite = rw e; bits = no_bits (same_equal f dash e) }
    go false e z = let r = read (bits_of f) z in record { definite = rw e r.0; bits = r.1 }

rule_value : (f : List ℕ) → (rule_of f).fault ≡ 0 → (rule_of f).value ≡ index f rule_words
unfolding rule_of
rule_value f = word_value 2 (index f rule_words)

-- a repetition is a count, `fill` or `fit`
pub record RepeatReads (f : List ℕ) (n : RepeatRecord) : Type 0 where
  pub kind : repeat_kind n.kind ≡ repeat_kind_in f
  pub number : n.number ≡ count_in f

repetition_value : (f : List ℕ) → (repetition_of f).fault ≡ 0 → RepeatReads f (repetition_of f)
unfolding repetition_of index whole_in whole_of natural_of non_negative digits_of
repetition_value f = go (same fill f) (same fit f) refl refl
  where
    fill : List ℕ
    fill = get_or repeat_words 0 []

    fit : List ℕ
    fit = get_or repeat_words 1 []

    no-count : (w : List ℕ) → w ≡ f → count_by (whole_in w) ≡ 0 → 0 ≡ count_in f
    no-count w e z = rw (← e) (sym z)

    by : Bool → Bool → RepeatRecord
    by t u = repetition_at (cond t 0 (suc (cond u 0 1))) (count_of 0 65535 f)

    go : (t u : Bool) → same fill f ≡ t → same fit f ≡ u → (by t u).fault ≡ 0 → RepeatReads f (by t u)
    go true u e d z = record { kind = rw e; number = no-count fill (same_equal fill f e) refl }
    go false true e d z = record { kind = rw (e, d); number = no-count fit (same_equal fit f d) refl }
    go false false e d z = record { kind = rw (e, d); number = count-value 0 65535 f z }

-- an end is its kind and its number
number_value : (least most k : ℕ) (f : List ℕ) → (end_number least most k f).fault ≡ 0 → (end_number least most k f).value ≡ whole_in f
unfolding end_number whole_in whole_of natural_of non_negative digits_of
number_value least most k f = go (eqb k 0) (eqb k 1) (eqb k 2) (eqb k 3)
  where
    by : Bool → Bool → Bool → Bool → NumberField
    by t u w s =
        cond t (unused_number f)
        (cond u (index_field (index_in (whole_of f))) (cond w (index_field (index_in (whole_of f))) (cond s (span_field (count_of least most f)) (span_field (count_of 0 65535 f)))))

    unused : (t : Bool) → same f nought ≡ t → (cond t (faulty_number 0) (faulty_number 1)).fault ≡ 0 → (cond t (faulty_number 0) (faulty_number 1)).value ≡ whole_in f
    unused true e z = rw (same_equal f nought e)
    unused false e z = absurd (not-zero 0 z)

    go : (t u w s : Bool) → (by t u w s).fault ≡ 0 → (by t u w s).value ≡ whole_in f
    go true u w s = unused (same f nought) refl
    go false true w s = index_by (whole_of f)
    go false false true s = index_by (whole_of f)
    go false false false true = λ z. sym (count-whole least most f z)
    go false false false false = λ z. sym (count-whole 0 65535 f z)

pub record EndReads (f g : List ℕ) (e : PlaceEnd) : Type 0 where
  pub kind : e.kind ≡ index f end_words
  pub number : e.number ≡ whole_in g

end-value : (least most : ℕ) (f n m : List ℕ) → (end_within least most f n m).fault ≡ 0 → EndReads f m (end_within least most f n m).end
unfolding end_within end_kind
end-value least most f n m z =
    let k = word_of 5 (index f end_words) in
    let y = first_zero k.fault (first_of (end_name k.value n) (end_number least most k.value m).fault) z in
    record {
      kind = word_value 5 (index f end_words) y.0;
      number = number_value least most k.value m (first_zero (end_name k.value n) (end_number least most k.value m).fault y.1).1;
    }

-- ---- a line

pub record AxisReads (fs : Line) (a : AxisRecord) : Type 0 where
  pub definite : bit a.definite ≡ cond (same (at fs 2) dash) 0 1
  pub inner : a.inner ≡ bits_in (at fs 2)
  pub rule : a.rule ≡ index (at fs 3) rule_words
  pub gap : a.gap ≡ size_in (at fs 4) (at fs 5)

abbrev pub Reads : Line → Record → Type 0
Reads fs (Fault n) = n ≡ 0 → ⊥
Reads fs (AxisLine a) = AxisReads fs a
Reads fs (Area a) = area_edges a ≡ (area_in fs).edges
Reads fs (Name a) = Unit {0}
Reads fs (Track a low high) = (low ≡ size_in (at fs 2) (at fs 3)) × (high ≡ size_in (at fs 4) (at fs 5))
Reads fs (Repeat a n) = n.fault ≡ 0 → RepeatReads (at fs 2) n
Reads fs (End a) = Unit {0}
Reads fs (Spare a low high) = (low ≡ size_in (at fs 2) (at fs 3)) × (high ≡ size_in (at fs 4) (at fs 5))
Reads fs (Extra a n p) = (n ≡ count_in (at fs 2)) × (p ≡ count_in (at fs 3))
Reads fs (Item a i) = i ≡ count_in (at fs 2)
Reads fs (Place a s e) = EndReads (at fs 2) (at fs 4) s × EndReads (at fs 5) (at fs 7) e
Reads fs (PictureRow n) = Unit {0}
Reads fs (Cell cs ce rs re) = (EndReads (at fs 1) (at fs 3) cs × EndReads (at fs 4) (at fs 6) ce) × (EndReads (at fs 7) (at fs 9) rs × EndReads (at fs 10) (at fs 12) re)

unless_reads : (fs : Line) (n : ℕ) (r : Record) → (n ≡ 0 → Reads fs r) → Reads fs (unless n r)
unless_reads fs n r h = ⊎_elim (λ e. rw (eq-eqb n 0 e) (h e)) (λ k. rw (ne_eqb n 0 k) k) (none_or_some n)

fields_reads : (fs : Line) (t : Bool) (r : Record) → Reads fs r → Reads fs (cond t r (Fault 1))
fields_reads fs true r h = h
fields_reads fs false r h = not-zero 0

edges_reads : (fs : Line) (a b c d : ℕ) → a ≡ count_in (at fs 2) → b ≡ count_in (at fs 3) → c ≡ count_in (at fs 4) → d ≡ count_in (at fs 5) → Reads fs (edges_of a b c d)
edges_reads fs a b c d p q r s = go (leb b a) (leb d c)
  where
    go : (t u : Bool) → Reads fs (cond t (Fault 5) (cond u (Fault 5) (Area (record { rowstart = a; rowend = b; columnstart = c; columnend = d }))))
    go true u = not-zero 4
    go false true = not-zero 4
    go false false = rw (p, q, r, s)

sizes_reads : (fs : Line) (is_spare : Bool) (a : AxisField) (low high : SizeField) → (low.fault ≡ 0 → low.word ≡ size_in (at fs 2) (at fs 3)) → (high.fault ≡ 0 → high.word ≡ size_in (at fs 4) (at fs 5))
    → Reads fs (made_sizes is_spare a low high)
sizes_reads fs is_spare a low high p q =
    unless_reads fs (first_of a.fault (first_of low.fault high.fault)) (cond is_spare (Spare a.axis low.word high.word) (Track a.axis low.word high.word))
    (λ z. let y = first_zero low.fault high.fault (first_zero a.fault (first_of low.fault high.fault) z).1 in go is_spare (p y.0, q y.1))
  where
    go : (t : Bool) → (low.word ≡ size_in (at fs 2) (at fs 3)) × (high.word ≡ size_in (at fs 4) (at fs 5)) → Reads fs (cond t (Spare a.axis low.word high.word) (Track a.axis low.word high.word))
    go true h = h
    go false h = h

line_reads : (k : Kind) (fs : Line) → Reads fs (line_of k fs)
unfolding axis_line area_line name_line sizes_line repeat_line end_line extra_line item_line place_line row_line cell_line
line_reads axis fs =
    let a = axis_of (at fs 1) in
    let i = inner_of (at fs 2) in
    let r = rule_of (at fs 3) in
    let g = size_of Gap (at fs 4) (at fs 5) in
    fields_reads fs (eqb (length fs) 6) (made_axis a i r g)
    (unless_reads fs (first_of a.fault (first_of i.fault (first_of r.fault g.fault)))
    (AxisLine (record { axis = a.axis; definite = i.definite; inner = i.bits; rule = r.value; gap = g.word }))
    (λ z.
    let x = (first_zero a.fault (first_of i.fault (first_of r.fault g.fault)) z).1 in
    let y = first_zero i.fault (first_of r.fault g.fault) x in
    let w = first_zero r.fault g.fault y.1 in
    let h = inner-value (at fs 2) y.0 in
    record { definite = h.definite; inner = h.bits; rule = rule_value (at fs 3) w.0; gap = size-value Gap (at fs 4) (at fs 5) w.1 }))
line_reads area fs =
    let n = name_fault (at fs 1) in
    let a = count_of 1 10001 (at fs 2) in
    let b = count_of 1 10001 (at fs 3) in
    let c = count_of 1 10001 (at fs 4) in
    let d = count_of 1 10001 (at fs 5) in
    fields_reads fs (eqb (length fs) 6) (made_area n a b c d)
    (unless_reads fs (first_of n (first_of a.fault (first_of b.fault (first_of c.fault d.fault)))) (edges_of a.value b.value c.value d.value)
    (λ z.
    let z1 = first_zero n (first_of a.fault (first_of b.fault (first_of c.fault d.fault))) z in
    let z2 = first_zero a.fault (first_of b.fault (first_of c.fault d.fault)) z1.1 in
    let z3 = first_zero b.fault (first_of c.fault d.fault) z2.1 in
    let z4 = first_zero c.fault d.fault z3.1 in
    edges_reads fs a.value b.value c.value d.value
    (count-value 1 10001 (at fs 2) z2.0) (count-value 1 10001 (at fs 3) z3.0) (count-value 1 10001 (at fs 4) z4.0) (count-value 1 10001 (at fs 5) z4.1)))
line_reads name fs =
    let a = axis_of (at fs 1) in
    let n = name_fault (at fs 2) in
    fields_reads fs (eqb (length fs) 3) (made_name a n) (unless_reads fs (first_of a.fault n) (Name a.axis) (λ z. tt))
line_reads track fs =
    let a = axis_of (at fs 1) in
    let l = size_of Minimum (at fs 2) (at fs 3) in
    let m = size_of Maximum (at fs 4) (at fs 5) in
    fields_reads fs (eqb (length fs) 6) (made_sizes false a l m) (sizes_reads fs false a l m (size-value Minimum (at fs 2) (at fs 3)) (size-value Maximum (at fs 4) (at fs 5)))
line_reads repeat fs =
    let a = axis_of (at fs 1) in
    let n = repetition_of (at fs 2) in
    fields_reads fs (eqb (length fs) 3) (made_repeat a n) (unless_reads fs a.fault (cond (eqb n.fault 1) (Fault 1) (Repeat a.axis n)) (λ z. go (eqb n.fault 1)))
  where
    go : (t : Bool) → Reads fs (cond t (Fault 1) (Repeat (axis_of (at fs 1)).axis (repetition_of (at fs 2))))
    go true = not-zero 0
    go false = repetition_value (at fs 2)
line_reads end fs = let a = axis_of (at fs 1) in fields_reads fs (eqb (length fs) 2) (made_end a) (unless_reads fs a.fault (End a.axis) (λ z. tt))
line_reads spare fs =
    let a = axis_of (at fs 1) in
    let l = size_of Minimum (at fs 2) (at fs 3) in
    let m = size_of Maximum (at fs 4) (at fs 5) in
    fields_reads fs (eqb (length fs) 6) (made_sizes true a l m) (sizes_reads fs true a l m (size-value Minimum (at fs 2) (at fs 3)) (size-value Maximum (at fs 4) (at fs 5)))
line_reads extra fs =
    let a = axis_of (at fs 1) in
    let n = count_of 0 10000 (at fs 2) in
    let p = count_of 0 10000 (at fs 3) in
    fields_reads fs (eqb (length fs) 4) (made_extra a n p)
    (unless_reads fs (first_of a.fault (first_of n.fault p.fault)) (Extra a.axis n.value p.value)
    (λ z. let y = first_zero n.fault p.fault (first_zero a.fault (first_of n.fault p.fault) z).1 in (count-value 0 10000 (at fs 2) y.0, count-value 0 10000 (at fs 3) y.1)))
line_reads item fs =
    let a = axis_of (at fs 1) in
    let i = count_of 0 29999 (at fs 2) in
    fields_reads fs (eqb (length fs) 3) (made_item a i)
    (unless_reads fs (first_of a.fault i.fault) (Item a.axis i.value) (λ z. count-value 0 29999 (at fs 2) (first_zero a.fault i.fault z).1))
line_reads place fs =
    let a = axis_of (at fs 1) in
    let s = end_of (at fs 2) (at fs 3) (at fs 4) in
    let e = end_of (at fs 5) (at fs 6) (at fs 7) in
    fields_reads fs (eqb (length fs) 8) (made_place a s e)
    (unless_reads fs (first_of a.fault (first_of s.fault e.fault)) (Place a.axis s.end e.end)
    (λ z. let y = first_zero s.fault e.fault (first_zero a.fault (first_of s.fault e.fault) z).1 in
    (end-value 0 65535 (at fs 2) (at fs 3) (at fs 4) y.0, end-value 0 65535 (at fs 5) (at fs 6) (at fs 7) y.1)))
line_reads cell fs =
    let cs = cell_end_of (at fs 1) (at fs 2) (at fs 3) in
    let ce = cell_end_of (at fs 4) (at fs 5) (at fs 6) in
    let rs = cell_end_of (at fs 7) (at fs 8) (at fs 9) in
    let re = cell_end_of (at fs 10) (at fs 11) (at fs 12) in
    fields_reads fs (eqb (length fs) 13) (made_cell cs ce rs re)
    (unless_reads fs (first_of cs.fault (first_of ce.fault (first_of rs.fault re.fault))) (Cell cs.end ce.end rs.end re.end)
    (λ z.
    let z1 = first_zero cs.fault (first_of ce.fault (first_of rs.fault re.fault)) z in
    let z2 = first_zero ce.fault (first_of rs.fault re.fault) z1.1 in
    let z3 = first_zero rs.fault re.fault z2.1 in (
      (end-value 1 32 (at fs 1) (at fs 2) (at fs 3) z1.0, end-value 1 32 (at fs 4) (at fs 5) (at fs 6) z2.0),
      (end-value 1 32 (at fs 7) (at fs 8) (at fs 9) z3.0, end-value 1 32 (at fs 10) (at fs 11) (at fs 12) z3.1),
    )))
line_reads row fs = go (ltb (length fs) 2)
  where
    go : (t : Bool) → Reads fs (cond t (Fault 1) (unless (row_fault (drop 1 fs)) (PictureRow (length (drop 1 fs)))))
    go true = not-zero 0
    go false = unless_reads fs (row_fault (drop 1 fs)) (PictureRow (length (drop 1 fs))) (λ z. tt)

-- every line
pub record_reads : (fs : Line) → Reads fs (record_of fs)
record_reads fs =
    ⊎_elim
    (λ h.
    let k = kind_at (index (at fs 0) kind_words) in
    let w = index_word (at fs 0) kind_words h ∙ ap (λ (i : ℕ). get_or kind_words i []) (sym (number_back_lem (index (at fs 0) kind_words) h)) in
    subst (Reads fs) (sym (line_record k fs w)) (line_reads k fs))
    (λ h. subst (Reads fs) (sym (no_record fs h)) (not-zero 0))
    (below_or (index (at fs 0) kind_words) 12)
