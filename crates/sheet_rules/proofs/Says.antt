-- The record of a line says its kind and its axis. Assumes nothing.
use Prim.Native.Nat.{ℕ, ◌<◌}
use mathlib.Core.Path.{◌≡◌, refl, sym, ap, ◌∙◌, subst}
use mathlib.Core.List.{List, []}
use mathlib.Core.Bool.{Bool, true, false, cond}
use mathlib.Core.Logic.{⊎_elim}
use native.Mathlib.Omega.{arith}
use lib.Dec.{eqb, leb, ltb}
use lib.ListN.{length, get_or, drop}
use borrow.Author.Tests.{eq-eqb, ne_eqb, eqb-true, ltb-false}
use Rattle.coordinates.specs.declared.axis.Axis.{Axis}
use Rattle.coordinates.specs.declared.axis.Axis.TheVariants.{Column, Row as Rows}
use Rattle.text.specs.Split.{index}
use Rattle.text.proofs.Which.{index_word}
use Rattle.sheet_forms.specs.Said.{Record}
use Rattle.sheet_forms.specs.Said.{Fault, Axis as AxisLine, Area, Name, Track, Repeat, End, Spare, Extra, Item, Place, PictureRow, Cell}
use Rattle.sheet_forms.specs.Said.{RepeatRecord}
use Rattle.sheet_forms.specs.Words.{at, axis_words, kind_words}
use Rattle.sheet_forms.specs.Faults.{first_of}
use Rattle.sheet_forms.specs.Fields.{axis_at, axis_of, rule_of, count_of, repetition_of, name_fault, row_fault}
use Rattle.sheet_forms.specs.declared.Position.TheVariants.{Minimum, Maximum, Gap}
use Rattle.sheet_forms.specs.Sizes.{size_of, inner_of}
use Rattle.sheet_forms.specs.Ends.{end_of, cell_end_of}
use Rattle.sheet_forms.specs.Records.{unless, edges_of, made_axis, made_area, made_name, made_sizes, made_repeat, made_end, made_extra, made_item, made_place, made_cell, axis_line, area_line, name_line, sizes_line, repeat_line, end_line, extra_line, item_line, place_line, row_line, cell_line, record_of}
use Rattle.sheet_forms.specs.Forms.{Kind, axis, area, name, track, repeat, end, spare, extra, item, place, row, cell, kind_number, Fields, Of}
use Rattle.sheet_forms.proofs.Firsts.{none_or_some, first_zero}
use Rattle.sheet_forms.proofs.FieldRows.{below_or}
use Rattle.sheet_forms.proofs.LineRows.{kind_at, number_back_lem, same_kind_lem}
use Rattle.sheet_forms.proofs.LineFaults.{line_of, line_record, no_record}
use Rattle.sheet_rules.specs.Rows.{OnAxis}

-- a line that is no record is unread where its word is `repeat` or `end`
abbrev pub Says : List (List ℕ) → Record → Type 0
Says fs (Fault n) = (Of fs repeat → n ≡ 1) × (Of fs end → n ≡ 1)
Says fs (AxisLine a) = Of fs axis × OnAxis fs a.axis
Says fs (Area a) = Of fs area
Says fs (Name a) = Of fs name × OnAxis fs a
Says fs (Track a min max) = Of fs track × OnAxis fs a
Says fs (Repeat a n) = Of fs repeat × OnAxis fs a
Says fs (End a) = Of fs end × OnAxis fs a
Says fs (Spare a min max) = Of fs spare × OnAxis fs a
Says fs (Extra a n p) = Of fs extra × OnAxis fs a
Says fs (Item a i) = Of fs item × OnAxis fs a
Says fs (Place a s e) = Of fs place × OnAxis fs a
Says fs (PictureRow n) = Of fs row
Says fs (Cell cs ce rs re) = Of fs cell

-- ---- the axis

axis_is : (fs : List (List ℕ)) (n : ℕ) → n < 2 → index (at fs 1) axis_words ≡ n → at fs 1 ≡ get_or axis_words n []
axis_is fs n h e = index_word (at fs 1) axis_words (omega arith) ∙ ap (λ (j : ℕ). get_or axis_words j []) e

axis_word_lem : (fs : List (List ℕ)) → (axis_of (at fs 1)).fault ≡ 0 → OnAxis fs (axis_of (at fs 1)).axis
unfolding axis_of
axis_word_lem fs = go (eqb (index (at fs 1) axis_words) 0) (eqb (index (at fs 1) axis_words) 1) refl refl
  where
    go : (t u : Bool) → eqb (index (at fs 1) axis_words) 0 ≡ t → eqb (index (at fs 1) axis_words) 1 ≡ u
        → (cond t (axis_at 0) (cond u (axis_at 1) (axis_at 2))).fault ≡ 0 → OnAxis fs (cond t (axis_at 0) (cond u (axis_at 1) (axis_at 2))).axis
    go true u e f z = axis_is fs 0 (omega arith) (eqb-true (index (at fs 1) axis_words) 0 e)
    go false true e f z = axis_is fs 1 (omega arith) (eqb-true (index (at fs 1) axis_words) 1 f)
    go false false e f z = absurd (omega arith)

axis_one : (f : List ℕ) → ((axis_of f).fault ≡ 0 → ⊥) → (axis_of f).fault ≡ 1
unfolding axis_of
axis_one f = go (eqb (index f axis_words) 0) (eqb (index f axis_words) 1)
  where
    go : (t u : Bool) → ((cond t (axis_at 0) (cond u (axis_at 1) (axis_at 2))).fault ≡ 0 → ⊥) → (cond t (axis_at 0) (cond u (axis_at 1) (axis_at 2))).fault ≡ 1
    go true u h = absurd (h refl)
    go false true h = absurd (h refl)
    go false false h = refl

-- ---- a line of a kind

no_one : (fs : List (List ℕ)) → Says fs (Fault 1)
no_one fs = (λ o. refl, λ o. refl)

module _ (fs : List (List ℕ)) (k : Kind) (w : at fs 0 ≡ get_or kind_words (kind_number k) []) where
  -- a fault of a line of another kind than `repeat` and `end`
  other-fault : (n : ℕ) → (k ≡ repeat → ⊥) → (k ≡ end → ⊥) → Says fs (Fault n)
  other-fault n h l = (λ o. absurd (h (same_kind_lem fs k repeat w o.word)), λ o. absurd (l (same_kind_lem fs k end w o.word)))

  unless-says : (n : ℕ) (r : Record) → (k ≡ repeat → ⊥) → (k ≡ end → ⊥) → (n ≡ 0 → Says fs r) → Says fs (unless n r)
  unless-says n r h l s = ⊎_elim (λ e. rw (eq-eqb n 0 e) (s e)) (λ j. rw (ne_eqb n 0 j) (other-fault n h l)) (none_or_some n)

  fields-says : (n : ℕ) (r : Record) → (length fs ≡ n → Fields k (length fs)) → (Of fs k → Says fs r) → Says fs (cond (eqb (length fs) n) r (Fault 1))
  fields-says n r z s = go (eqb (length fs) n) refl
    where
      go : (t : Bool) → eqb (length fs) n ≡ t → Says fs (cond t r (Fault 1))
      go true e = s (record { word = w; fields = z (eqb-true (length fs) n e) })
      go false e = no_one fs

not_kind : (j k : Kind) → (kind_number j ≡ kind_number k → ⊥) → j ≡ k → ⊥
not_kind j k h e = h (ap kind_number e)

edges_says : (fs : List (List ℕ)) (a b c d : ℕ) → Of fs area → Says fs (edges_of a b c d)
edges_says fs a b c d o = go (leb b a) (leb d c)
  where
    no : Says fs (Fault 5)
    no = other-fault fs area o.word 5 (not_kind area repeat (λ e. omega arith)) (not_kind area end (λ e. omega arith))

    go : (t u : Bool) → Says fs (cond t (Fault 5) (cond u (Fault 5) (Area (record { rowstart = a; rowend = b; columnstart = c; columnend = d }))))
    go true u = no
    go false true = no
    go false false = o

repeat_says : (fs : List (List ℕ)) (n : RepeatRecord) → Of fs repeat → Says fs (made_repeat (axis_of (at fs 1)) n)
repeat_says fs n o = ⊎_elim yes no (none_or_some (axis_of (at fs 1)).fault)
  where
    go : (t : Bool) → OnAxis fs (axis_of (at fs 1)).axis → Says fs (cond t (Fault 1) (Repeat (axis_of (at fs 1)).axis n))
    go true a = no_one fs
    go false a = (o, a)

    yes : (axis_of (at fs 1)).fault ≡ 0 → Says fs (made_repeat (axis_of (at fs 1)) n)
    yes e = rw (eq-eqb (axis_of (at fs 1)).fault 0 e) (go (eqb n.fault 1) (axis_word_lem fs e))

    no : ((axis_of (at fs 1)).fault ≡ 0 → ⊥) → Says fs (made_repeat (axis_of (at fs 1)) n)
    no h = rw (ne_eqb (axis_of (at fs 1)).fault 0 h) (λ o. axis_one (at fs 1) h, λ o. axis_one (at fs 1) h)

end_says : (fs : List (List ℕ)) → Of fs end → Says fs (unless (axis_of (at fs 1)).fault (End (axis_of (at fs 1)).axis))
end_says fs o = ⊎_elim yes no (none_or_some (axis_of (at fs 1)).fault)
  where
    yes : (axis_of (at fs 1)).fault ≡ 0 → Says fs (unless (axis_of (at fs 1)).fault (End (axis_of (at fs 1)).axis))
    yes e = rw (eq-eqb (axis_of (at fs 1)).fault 0 e) (o, axis_word_lem fs e)

    no : ((axis_of (at fs 1)).fault ≡ 0 → ⊥) → Says fs (unless (axis_of (at fs 1)).fault (End (axis_of (at fs 1)).axis))
    no h = rw (ne_eqb (axis_of (at fs 1)).fault 0 h) (λ o. axis_one (at fs 1) h, λ o. axis_one (at fs 1) h)

-- a record on an axis, where the axis is the first of its fields
on_says : (fs : List (List ℕ)) (k : Kind) (w : at fs 0 ≡ get_or kind_words (kind_number k) []) (n : ℕ) (r : Record)
    → (k ≡ repeat → ⊥) → (k ≡ end → ⊥) → (OnAxis fs (axis_of (at fs 1)).axis → Says fs r) → Says fs (unless (first_of (axis_of (at fs 1)).fault n) r)
on_says fs k w n r h l s =
    unless-says fs k w (first_of (axis_of (at fs 1)).fault n) r h l (λ z. s (axis_word_lem fs (first_zero (axis_of (at fs 1)).fault n z).0))

line_says : (k : Kind) (fs : List (List ℕ)) → at fs 0 ≡ get_or kind_words (kind_number k) [] → Says fs (line_of k fs)
unfolding axis_line area_line name_line sizes_line repeat_line end_line extra_line item_line place_line row_line cell_line
line_says axis fs w =
    let a = axis_of (at fs 1) in
    let i = inner_of (at fs 2) in
    let r = rule_of (at fs 3) in
    let g = size_of Gap (at fs 4) (at fs 5) in
    fields-says fs axis w 6 (made_axis a i r g) (λ e. e)
    (λ o. on_says fs axis w (first_of i.fault (first_of r.fault g.fault)) (AxisLine (record { axis = a.axis; definite = i.definite; inner = i.bits; rule = r.value; gap = g.word })) (not_kind axis repeat (λ e. omega arith)) (not_kind axis end (λ e. omega arith)) (λ x. (o, x)))
line_says area fs w =
    let n = name_fault (at fs 1) in
    let a = count_of 1 10001 (at fs 2) in
    let b = count_of 1 10001 (at fs 3) in
    let c = count_of 1 10001 (at fs 4) in
    let d = count_of 1 10001 (at fs 5) in
    fields-says fs area w 6 (made_area n a b c d) (λ e. e)
    (λ o. unless-says fs area w (first_of n (first_of a.fault (first_of b.fault (first_of c.fault d.fault)))) (edges_of a.value b.value c.value d.value)
    (not_kind area repeat (λ e. omega arith)) (not_kind area end (λ e. omega arith)) (λ z. edges_says fs a.value b.value c.value d.value o))
line_says name fs w =
    let a = axis_of (at fs 1) in
    let n = name_fault (at fs 2) in
    fields-says fs name w 3 (made_name a n) (λ e. e)
    (λ o. on_says fs name w (n) (Name a.axis) (not_kind name repeat (λ e. omega arith)) (not_kind name end (λ e. omega arith)) (λ x. (o, x)))
line_says track fs w =
    let a = axis_of (at fs 1) in
    let l = size_of Minimum (at fs 2) (at fs 3) in
    let m = size_of Maximum (at fs 4) (at fs 5) in
    fields-says fs track w 6 (made_sizes false a l m) (λ e. e)
    (λ o. on_says fs track w (first_of l.fault m.fault) (Track a.axis l.word m.word) (not_kind track repeat (λ e. omega arith)) (not_kind track end (λ e. omega arith)) (λ x. (o, x)))
line_says repeat fs w = fields-says fs repeat w 3 (made_repeat (axis_of (at fs 1)) (repetition_of (at fs 2))) (λ e. e) (repeat_says fs (repetition_of (at fs 2)))
line_says end fs w = fields-says fs end w 2 (made_end (axis_of (at fs 1))) (λ e. e) (end_says fs)
line_says spare fs w =
    let a = axis_of (at fs 1) in
    let l = size_of Minimum (at fs 2) (at fs 3) in
    let m = size_of Maximum (at fs 4) (at fs 5) in
    fields-says fs spare w 6 (made_sizes true a l m) (λ e. e)
    (λ o. on_says fs spare w (first_of l.fault m.fault) (Spare a.axis l.word m.word) (not_kind spare repeat (λ e. omega arith)) (not_kind spare end (λ e. omega arith)) (λ x. (o, x)))
line_says extra fs w =
    let a = axis_of (at fs 1) in
    let n = count_of 0 10000 (at fs 2) in
    let p = count_of 0 10000 (at fs 3) in
    fields-says fs extra w 4 (made_extra a n p) (λ e. e)
    (λ o. on_says fs extra w (first_of n.fault p.fault) (Extra a.axis n.value p.value) (not_kind extra repeat (λ e. omega arith)) (not_kind extra end (λ e. omega arith)) (λ x. (o, x)))
line_says item fs w =
    let a = axis_of (at fs 1) in
    let i = count_of 0 29999 (at fs 2) in
    fields-says fs item w 3 (made_item a i) (λ e. e)
    (λ o. on_says fs item w i.fault (Item a.axis i.value) (not_kind item repeat (λ e. omega arith)) (not_kind item end (λ e. omega arith)) (λ x. (o, x)))
line_says place fs w =
    let a = axis_of (at fs 1) in
    let s = end_of (at fs 2) (at fs 3) (at fs 4) in
    let e = end_of (at fs 5) (at fs 6) (at fs 7) in
    fields-says fs place w 8 (made_place a s e) (λ e. e)
    (λ o. on_says fs place w (first_of s.fault e.fault) (Place a.axis s.end e.end) (not_kind place repeat (λ e. omega arith)) (not_kind place end (λ e. omega arith)) (λ x. (o, x)))
line_says cell fs w =
    let cs = cell_end_of (at fs 1) (at fs 2) (at fs 3) in
    let ce = cell_end_of (at fs 4) (at fs 5) (at fs 6) in
    let rs = cell_end_of (at fs 7) (at fs 8) (at fs 9) in
    let re = cell_end_of (at fs 10) (at fs 11) (at fs 12) in
    fields-says fs cell w 13 (made_cell cs ce rs re) (λ e. e)
    (λ o. unless-says fs cell w (first_of cs.fault (first_of ce.fault (first_of rs.fault re.fault))) (Cell cs.end ce.end rs.end re.end)
    (not_kind cell repeat (λ e. omega arith)) (not_kind cell end (λ e. omega arith)) (λ z. o))
line_says row fs w = go (ltb (length fs) 2) refl
  where
    go : (t : Bool) → ltb (length fs) 2 ≡ t → Says fs (cond t (Fault 1) (unless (row_fault (drop 1 fs)) (PictureRow (length (drop 1 fs)))))
    go true e = no_one fs
    go false e =
        unless-says fs row w (row_fault (drop 1 fs)) (PictureRow (length (drop 1 fs))) (not_kind row repeat (λ e. omega arith)) (not_kind row end (λ e. omega arith))
        (λ z. record { word = w; fields = ltb-false (length fs) 2 e })

-- every line
pub record_says : (fs : List (List ℕ)) → Says fs (record_of fs)
record_says fs =
    ⊎_elim
    (λ h.
    let k = kind_at (index (at fs 0) kind_words) in
    let w = index_word (at fs 0) kind_words h ∙ ap (λ (i : ℕ). get_or kind_words i []) (sym (number_back_lem (index (at fs 0) kind_words) h)) in
    subst (Says fs) (sym (line_record k fs w)) (line_says k fs w))
    (λ h. subst (Says fs) (sym (no_record fs h)) (no_one fs))
    (below_or (index (at fs 0) kind_words) 12)

-- ---- a line has one kind and one axis

pub one_axis : (fs : List (List ℕ)) (a b : Axis) → OnAxis fs a → OnAxis fs b → a ≡ b
one_axis fs Column Column p q = refl
one_axis fs Column Rows p q = absurd (differ (sym p ∙ q))
  where
    differ : get_or axis_words 0 [] ≡ get_or axis_words 1 [] → ⊥
    differ e = omega (arith, ap (λ (l : List ℕ). get_or l 0 0) e)
one_axis fs Rows Column p q = absurd (differ (sym p ∙ q))
  where
    differ : get_or axis_words 1 [] ≡ get_or axis_words 0 [] → ⊥
    differ e = omega (arith, ap (λ (l : List ℕ). get_or l 0 0) e)
one_axis fs Rows Rows p q = refl
