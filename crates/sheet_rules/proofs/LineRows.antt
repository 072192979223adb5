-- Twice, late, overlap, misnested and crowded at a line that is a record: the fault of each is 0 exactly where its row does not hold. Assumes nothing.
use Prim.Native.Nat.{ℕ, ◌+◌, ◌≤◌}
use mathlib.Core.Path.{◌≡◌, refl, sym, ap, ◌∙◌, subst}
use mathlib.Core.List.{List, [], ◌∷◌}
use mathlib.Core.Bool.{Bool, true, false, cond, not, ◌&&◌, ◌||◌, false≢true}
use mathlib.Core.Logic.{◌⊎◌, inl, inr}
use native.Mathlib.Omega.{arith}
use lib.Dec.{eqb, leb, ltb, leb→le}
use lib.IntN.{ℤ, pos, negsuc}
use lib.Signed.{◌≤ℤ◌}
use lib.ListN.{length, drop}
use borrow.Author.Tests.{eq-eqb, le-ltb, le-leb, eqb-true, eqb-false, ltb-true, ltb-false, leb-true, leb-false}
use Rattle.coordinates.specs.declared.axis.Axis.{Axis}
use Rattle.text.specs.Split.{same}
use Rattle.text.proofs.Which.{same_equal, unequal as not_same}
use Rattle.sheet_forms.specs.Said.{Record}
use Rattle.sheet_forms.specs.Said.{Fault, Axis as AxisLine, Area as AreaLine, Name, Track, Repeat, End, Spare, Extra, Item, Place, PictureRow, Cell}
use Rattle.sheet_forms.specs.Said.{PlaceEnd}
use Rattle.sheet_forms.specs.Words.{at}
use Rattle.sheet_forms.specs.Faults.{rank_of, first_of}
use Rattle.sheet_forms.specs.Ends.{uses_name}
use Rattle.sheet_forms.specs.Forms.{Kind, axis, area, name, track, repeat, end, spare, extra, item, place, row, cell, Of}
use Rattle.sheet_forms.proofs.Firsts.{firsts-by, first_left, first_one, first_none}
use Rattle.sheet_forms.proofs.LineRows.{same_kind_lem}
use Rattle.sheet_forms.proofs.FieldBounds.{EndBounded}
use Rattle.sheet_forms.proofs.Bounds.{Bounded}
use Rattle.axis_tables.specs.View.{Unended, none, inside, AxisView, refused as refused_axis, accepted as accepted_axis, track_by, track_step, repeat_by, repeat_step, end_by, end_step, name_step, spare_step, item_step, extra_step, axis_step, tracks_in, components_of, axis_names, axis_bytes, no_room, named_fault}
use Rattle.panel_tables.specs.View.{Area, PanelView, has_area, refused, accepted, edge_outside, number_outside, end_outside, ends_fault, items, limited_step, lower, area_step, place_step, cell_step}
use Rattle.panel_tables.specs.Axes.{view_in}
use Rattle.panel_tables.proofs.Fits.{GoodEnd, ends_none, lower-none}
use Rattle.picture_rules.specs.Picture.{Picture, width_of}
use Rattle.panel_cells.specs.Cells.{SharedBy}
use Rattle.panel_cells.specs.Steps.{first_sharing}
use Rattle.panel_cells.proofs.Pairs.{sharing_none, sharing_some}
use Rattle.sheet_rules.specs.Pictures.{areas_of, with_words, other_width, drawn_row, picture_step}
use Rattle.sheet_rules.specs.Lines.{edges_of, placed_end, late_at, record_step, twice_fault, late_fault, overlap_fault}
use Rattle.sheet_rules.specs.Rows.{OnAxis, OfAxis, Opened, Open, Seen, Drawn, MisnestedBy, TwiceBy, order_of, LateAt, LateBy, FullFor, NoRoomFor, ManyNames, CrowdedBy, OverlapBy, UnequalBy, AtKind, Row, unread, twice, late, crowded, overlap, unequal, First}
use Rattle.sheet_rules.proofs.LineFields.{Reads}
use Rattle.sheet_rules.proofs.Says.{Says, one_axis}
use Rattle.sheet_rules.proofs.Only.{Only, only_no, only_yes, only_if, some_number}

-- ---- the kind order

-- the test is right
pub late_yes : (order stage : ℕ) → late_at order stage ≡ true → LateAt order stage
late_yes order stage = go (ltb order stage) (eqb order 2) (eqb stage 1) refl refl refl
  where
    go : (t u w : Bool) → ltb order stage ≡ t → eqb order 2 ≡ u → eqb stage 1 ≡ w → (t || (u && w)) ≡ true → LateAt order stage
    go true u w e f g z = inl (ltb-true order stage e)
    go false true true e f g z = inr (eqb-true order 2 f, eqb-true stage 1 g)
    go false true false e f g z = absurd (false≢true z)
    go false false w e f g z = absurd (false≢true z)

pub late-no : (order stage : ℕ) → late_at order stage ≡ false → LateAt order stage → ⊥
late-no order stage = go (ltb order stage) (eqb order 2) (eqb stage 1) refl refl refl
  where
    go : (t u w : Bool) → ltb order stage ≡ t → eqb order 2 ≡ u → eqb stage 1 ≡ w → (t || (u && w)) ≡ false → LateAt order stage → ⊥
    go true u w e f g z l = false≢true (sym z)
    go false true true e f g z l = false≢true (sym z)
    go false true false e f g z (inl l) = omega (arith, ltb-false order stage e, l)
    go false true false e f g z (inr (p, q)) = eqb-false stage 1 g q
    go false false w e f g z (inl l) = omega (arith, ltb-false order stage e, l)
    go false false w e f g z (inr (p, q)) = eqb-false order 2 f p

-- ---- an area of that name

drawn : (n : List ℕ) (list : List Area) → has_area n list ≡ true → Drawn n list
drawn n [] e = absurd (false≢true e)
drawn n (a ∷ list) e = go (drawn n list) (same a.name n) refl e
  where
    go : (has_area n list ≡ true → Drawn n list) → (t : Bool) → same a.name n ≡ t → cond t true (has_area n list) ≡ true → Drawn n (a ∷ list)
    go rest true q e = inl (same_equal a.name n q)
    go rest false q e = inr (rest e)

not-drawn : (n : List ℕ) (list : List Area) → has_area n list ≡ false → Drawn n list → ⊥
not-drawn n [] e d = d
not-drawn n (a ∷ list) e d = go (not-drawn n list) (same a.name n) refl e d
  where
    go : (has_area n list ≡ false → Drawn n list → ⊥) → (t : Bool) → same a.name n ≡ t → cond t true (has_area n list) ≡ false → Drawn n (a ∷ list) → ⊥
    go rest true q e d = false≢true (sym e)
    go rest false q e (inl x) = not_same a.name n q x
    go rest false q e (inr x) = rest e x

-- ---- ranges that a record keeps

edge_in_lem : (e : ℕ) → 1 ≤ e → e ≤ 10001 → edge_outside e ≡ false
edge_in_lem e h k = rw (le-leb 1 e h, le-ltb 10001 e k)

number_in : (z : ℤ) → negsuc 32767 ≤ℤ z → z ≤ℤ pos 65535 → number_outside z ≡ false
number_in (pos n) h k = le-ltb 65535 n (leb→le n 65535 k.le)
number_in (negsuc n) h k = le-ltb 32767 n (leb→le n 32767 h.le)

end_in_lem : (f : List ℕ) (e : PlaceEnd) → EndBounded f e → end_outside (placed_end f e).end ≡ false
end_in_lem f e b = rw (le-ltb 4 e.kind b.kinds) (number_in e.number b.least b.most)

end-few : (f : List ℕ) (e : PlaceEnd) → EndBounded f e → ltb 32 (length (placed_end f e).name) ≡ false
end-few f e b = go (uses_name e.kind) refl
  where
    go : (t : Bool) → uses_name e.kind ≡ t → ltb 32 (length (cond t f [])) ≡ false
    go true q = le-ltb 32 (length f) (b.named q).few
    go false q = refl

-- so it is good
pub good-end : (f : List ℕ) (e : PlaceEnd) → EndBounded f e → GoodEnd (placed_end f e)
good-end f e b = record { short = ltb-false 32 (length (placed_end f e).name) (end-few f e b); end = end_in_lem f e b }

-- ---- the faults of a record

abbrev pub IsRecord : Record → Type 0
IsRecord (Fault n) = ⊥
IsRecord (AxisLine a) = Unit {0}
IsRecord (AreaLine a) = Unit {0}
IsRecord (Name a) = Unit {0}
IsRecord (Track a min max) = Unit {0}
IsRecord (Repeat a n) = Unit {0}
IsRecord (End a) = Unit {0}
IsRecord (Spare a min max) = Unit {0}
IsRecord (Extra a n p) = Unit {0}
IsRecord (Item a i) = Unit {0}
IsRecord (Place a s e) = Unit {0}
IsRecord (PictureRow n) = Unit {0}
IsRecord (Cell cs ce rs re) = Unit {0}

module _ (v : PanelView) (fs : List (List ℕ)) where
  at-kind : (P : Kind → PanelView → List (List ℕ) → Type 0) (k : Kind) → Of fs k → AtKind P v fs → P k v fs
  at-kind P k o (j, p, x) = subst (λ (i : Kind). P i v fs) (same_kind_lem fs j k p.word o.word) x

  of-axis : (P : AxisView → Type 0) (a : Axis) → OnAxis fs a → OfAxis v fs P → P (view_in v a)
  of-axis P a o (b, p, x) = subst (λ (c : Axis). P (view_in v c)) (one_axis fs b a p o) x

  -- twice
  abbrev pub TwiceRow : Row → Type 0
  TwiceRow = Only twice (AtKind TwiceBy v fs)

  no-twice : (k : Kind) → Of fs k → (TwiceBy k v fs → ⊥) → First TwiceRow 0
  no-twice k o h = only_no twice refl (λ x. h (at-kind TwiceBy k o x))

  pub twice-first : (r : Record) → IsRecord r → Says fs r → First TwiceRow (twice_fault v fs r)
  twice-first (Fault n) i s = absurd i
  twice-first (AxisLine a) i (o, x) = go (eqb (view_in v a.axis).line.seen 0) refl
    where
      go : (t : Bool) → eqb (view_in v a.axis).line.seen 0 ≡ t → First TwiceRow (cond t 0 6)
      go true e = no-twice axis o (λ y. of-axis Seen a.axis x y (eqb-true (view_in v a.axis).line.seen 0 e))
      go false e = only_yes twice refl (axis, o, (a.axis, x, eqb-false (view_in v a.axis).line.seen 0 e))
  twice-first (AreaLine a) i o =
      only_if twice (has_area (at fs 1) v.areas) (λ e. (area, o, drawn (at fs 1) v.areas e)) (λ e y. not-drawn (at fs 1) v.areas e (at-kind TwiceBy area o y))
  twice-first (Name a) i (o, x) = no-twice name o (λ y. y)
  twice-first (Track a min max) i (o, x) = no-twice track o (λ y. y)
  twice-first (Repeat a n) i (o, x) = no-twice repeat o (λ y. y)
  twice-first (End a) i (o, x) = no-twice end o (λ y. y)
  twice-first (Spare a min max) i (o, x) = no-twice spare o (λ y. y)
  twice-first (Extra a n p) i (o, x) = no-twice extra o (λ y. y)
  twice-first (Item a j) i (o, x) = no-twice item o (λ y. y)
  twice-first (Place a s e) i (o, x) = no-twice place o (λ y. y)
  twice-first (PictureRow n) i o = no-twice row o (λ y. y)
  twice-first (Cell cs ce rs re) i o = no-twice cell o (λ y. y)

  -- late
  abbrev pub LateRow : Row → Type 0
  LateRow = Only late (AtKind LateBy v fs)

  late_by : (k : Kind) → Of fs k → First LateRow (cond (late_at (order_of k) v.stage) 7 0)
  late_by k o = only_if late (late_at (order_of k) v.stage) (λ e. (k, o, late_yes (order_of k) v.stage e)) (λ e y. late-no (order_of k) v.stage e (at-kind LateBy k o y))

  pub late-first : (r : Record) → IsRecord r → Says fs r → First LateRow (late_fault v r)
  late-first (Fault n) i s = absurd i
  late-first (AxisLine a) i (o, x) = late_by axis o
  late-first (AreaLine a) i o = late_by area o
  late-first (Name a) i (o, x) = late_by name o
  late-first (Track a min max) i (o, x) = late_by track o
  late-first (Repeat a n) i (o, x) = late_by repeat o
  late-first (End a) i (o, x) = late_by end o
  late-first (Spare a min max) i (o, x) = late_by spare o
  late-first (Extra a n p) i (o, x) = late_by extra o
  late-first (Item a j) i (o, x) = late_by item o
  late-first (Place a s e) i (o, x) = late_by place o
  late-first (PictureRow n) i o = late_by row o
  late-first (Cell cs ce rs re) i o = late_by cell o

  -- overlap
  abbrev pub OverlapRow : Row → Type 0
  OverlapRow = Only overlap (AtKind OverlapBy v fs)

  no-overlap : (k : Kind) → Of fs k → (OverlapBy k v fs → ⊥) → First OverlapRow 0
  no-overlap k o h = only_no overlap refl (λ x. h (at-kind OverlapBy k o x))

  pub overlap-first : (r : Record) → IsRecord r → Says fs r → Reads fs r → First OverlapRow (overlap_fault v r)
  overlap-first (Fault n) i s h = absurd i
  overlap-first (AxisLine a) i (o, x) h = no-overlap axis o (λ y. y)
  overlap-first (AreaLine a) i o h = go (eqb (first_sharing (edges_of a) v.areas) 0) refl
    where
      go : (t : Bool) → eqb (first_sharing (edges_of a) v.areas) 0 ≡ t → First OverlapRow (cond t 0 12)
      go true e =
          no-overlap area o
          (λ y. sharing_none (edges_of a) v.areas (eqb-true (first_sharing (edges_of a) v.areas) 0 e) (subst (SharedBy v.areas) (sym h) y))
      go false e =
          only_yes overlap refl
          (area, o, subst (SharedBy v.areas) h (sharing_some (edges_of a) v.areas (eqb-false (first_sharing (edges_of a) v.areas) 0 e)))
  overlap-first (Name a) i (o, x) h = no-overlap name o (λ y. y)
  overlap-first (Track a min max) i (o, x) h = no-overlap track o (λ y. y)
  overlap-first (Repeat a n) i (o, x) h = no-overlap repeat o (λ y. y)
  overlap-first (End a) i (o, x) h = no-overlap end o (λ y. y)
  overlap-first (Spare a min max) i (o, x) h = no-overlap spare o (λ y. y)
  overlap-first (Extra a n p) i (o, x) h = no-overlap extra o (λ y. y)
  overlap-first (Item a j) i (o, x) h = no-overlap item o (λ y. y)
  overlap-first (Place a s e) i (o, x) h = no-overlap place o (λ y. y)
  overlap-first (PictureRow n) i o h = no-overlap row o (λ y. y)
  overlap-first (Cell cs ce rs re) i o h = no-overlap cell o (λ y. y)

  -- misnested and crowded
  abbrev pub NestRow : Row → Type 0
  NestRow = Only unread (AtKind MisnestedBy v fs)

  abbrev pub CrowdedRow : Row → Type 0
  CrowdedRow = Only crowded (AtKind CrowdedBy v fs)

  abbrev pub UnequalRow : Row → Type 0
  UnequalRow = Only unequal (AtKind UnequalBy v fs)

  abbrev pub StepRow : Row → Type 0
  StepRow r = NestRow r ⊎ (CrowdedRow r ⊎ UnequalRow r)

  -- a record that is no row has no width
  both : {n : ℕ} (m c : ℕ) (k : Kind) → Of fs k → (UnequalBy k v fs → ⊥) → First NestRow m → First CrowdedRow c → first_of m c ≡ n → First StepRow n
  both m c k o u x y e =
      subst (First StepRow) (ap (first_of m) (first_none c) ∙ e) (firsts-by some_number x (firsts-by some_number y (only_no unequal refl (λ z. u (at-kind UnequalBy k o z)))))

  nested : (k : Kind) → Of fs k → (UnequalBy k v fs → ⊥) → (MisnestedBy k v fs → ⊥) → {n : ℕ} → First CrowdedRow n → First StepRow n
  nested k o u h {n} y = both 0 n k o u (only_no unread refl (λ x. h (at-kind MisnestedBy k o x))) y (first_left 0 n refl)

  -- a record that has neither fault
  neither : (k : Kind) → Of fs k → (UnequalBy k v fs → ⊥) → (MisnestedBy k v fs → ⊥) → (CrowdedBy k v fs → ⊥) → First StepRow 0
  neither k o u h l = nested k o u h (only_no crowded refl (λ x. l (at-kind CrowdedBy k o x)))

  -- a record that is crowded where a test says so
  crowded-if : (k : Kind) → Of fs k → (UnequalBy k v fs → ⊥) → (MisnestedBy k v fs → ⊥) → (t : Bool) (x y : PanelView) → (t ≡ true → CrowdedBy k v fs) → (t ≡ false → CrowdedBy k v fs → ⊥)
      → First StepRow (cond t (refused 8 x) (accepted y)).fault
  crowded-if k o u h true x y p q = nested k o u h (only_yes crowded refl (k, o, p refl))
  crowded-if k o u h false x y p q = neither k o u h (q refl)

  -- a `place` or a `cell` whose ends have no fault
  limited-first : (k : Kind) → Of fs k → (UnequalBy k v fs → ⊥) → (MisnestedBy k v fs → ⊥) → (fault : ℕ) (after : PanelView) → fault ≡ 0 → (256 ≤ items v → CrowdedBy k v fs) → (CrowdedBy k v fs → 256 ≤ items v)
      → First StepRow (limited_step v fault after).fault
  unfolding limited_step
  limited-first k o u h fault after e p q =
      rw (eq-eqb fault 0 e)
      (crowded-if k o u h (leb 256 (items v)) _ _ (λ t. p (leb-true 256 (items v) t)) (λ t y. omega (arith, leb-false 256 (items v) t, q y)))

  crowded-on : (k : Kind) → Of fs k → (UnequalBy k v fs → ⊥) → (MisnestedBy k v fs → ⊥) → (t : Bool) (x y : AxisView) → (t ≡ true → CrowdedBy k v fs) → (t ≡ false → CrowdedBy k v fs → ⊥)
      → First StepRow (cond t (refused_axis 8 x) (accepted_axis y)).fault
  crowded-on k o u h true x y p q = nested k o u h (only_yes crowded refl (k, o, p refl))
  crowded-on k o u h false x y p q = neither k o u h (q refl)

  -- the same by a number that is 8
  crowded-as : (f : ℕ) → f ≡ 8 → (k : Kind) → Of fs k → (UnequalBy k v fs → ⊥) → (MisnestedBy k v fs → ⊥) → (t : Bool) (x y : AxisView) → (t ≡ true → CrowdedBy k v fs) → (t ≡ false → CrowdedBy k v fs → ⊥)
      → First StepRow (cond t (refused_axis f x) (accepted_axis y)).fault
  crowded-as f e k o u h t x y p q = subst (λ (m : ℕ). First StepRow (cond t (refused_axis m x) (accepted_axis y)).fault) (sym e) (crowded-on k o u h t x y p q)

  -- a name has at most 32 bytes
  no_room_lem : (x : AxisView) (n : List ℕ) → length n ≤ 32 → no_room 4096 32768 (length (axis_names x)) (length (axis_bytes x)) (length n) ≡ true → NoRoomFor n x
  no_room_lem x n h = rw (le-ltb 32 (length n) h) (go (leb 4096 (length (axis_names x))) refl)
    where
      go : (t : Bool) → leb 4096 (length (axis_names x)) ≡ t → cond t true (ltb 32768 (length (axis_bytes x) + length n)) ≡ true → NoRoomFor n x
      go true e q = inl (leb-true 4096 (length (axis_names x)) e)
      go false e q = inr (ltb-true 32768 (length (axis_bytes x) + length n) q)

  room : (x : AxisView) (n : List ℕ) → no_room 4096 32768 (length (axis_names x)) (length (axis_bytes x)) (length n) ≡ false → NoRoomFor n x → ⊥
  room x n = go (ltb 32 (length n)) (leb 4096 (length (axis_names x))) refl
    where
      go : (s t : Bool) → leb 4096 (length (axis_names x)) ≡ t → cond s true (cond t true (ltb 32768 (length (axis_bytes x) + length n))) ≡ false → NoRoomFor n x → ⊥
      go true t e q y = false≢true (sym q)
      go false true e q y = false≢true (sym q)
      go false false e q (inl y) = omega (arith, leb-false 4096 (length (axis_names x)) e, y)
      go false false e q (inr y) = omega (arith, ltb-false 32768 (length (axis_bytes x) + length n) q, y)

  track-first : (a : Axis) → Of fs track → OnAxis fs a → (min max : ℕ) → First StepRow (track_step (view_in v a) min max).fault
  unfolding track_step
  track-first a o x min max = go (view_in v a).unended refl
    where
      held : (u : Unended) → (view_in v a).unended ≡ u → FullFor u (view_in v a) → CrowdedBy track v fs
      held u e f = (a, x, subst (λ (w : Unended). FullFor w (view_in v a)) (sym e) f)

      back : (u : Unended) → (view_in v a).unended ≡ u → CrowdedBy track v fs → FullFor u (view_in v a)
      back u e c = subst (λ (w : Unended). FullFor w (view_in v a)) e (of-axis (λ y. FullFor y.unended y) a x c)

      go : (u : Unended) → (view_in v a).unended ≡ u → First StepRow (track_by (view_in v a) u (record { min = min; max = max })).fault
      go none e =
          let n = length (components_of (view_in v a).template) in
          crowded-on track o (λ y. y) (λ y. y) (ltb 63 n) _ _ (λ t. held none e (ltb-true 63 n t)) (λ t c. omega (arith, ltb-false 63 n t, back none e c))
      go (inside r) e =
          let n = length (tracks_in r.pieces) in
          crowded-on track o (λ y. y) (λ y. y) (ltb 31 n) _ _ (λ t. held (inside r) e (ltb-true 31 n t)) (λ t c. omega (arith, ltb-false 31 n t, back (inside r) e c))

  repeat-first : (a : Axis) → Of fs repeat → OnAxis fs a → (kind number : ℕ) → number ≤ 65535 → First StepRow (repeat_step (view_in v a) kind number).fault
  unfolding repeat_step
  repeat-first a o x kind number h = go (view_in v a).unended refl
    where
      go : (u : Unended) → (view_in v a).unended ≡ u → First StepRow (repeat_by (view_in v a) u kind number).fault
      go (inside r) e =
          let n = length (components_of (view_in v a).template) in
          let c : ℕ = cond (ltb 63 n) 8 0 in
          both 1 c repeat o (λ y. y) (only_yes unread refl (repeat, o, (a, x, subst Opened (sym e) tt)))
          (only_if crowded (ltb 63 n) (λ t. (repeat, o, (a, x, ltb-true 63 n t)))
          (λ t y. omega (arith, ltb-false 63 n t, of-axis (λ z. 64 ≤ length (components_of z.template)) a x (at-kind CrowdedBy repeat o y))))
          (first_one 1 c refl)
      go none e =
          let n = length (components_of (view_in v a).template) in
          rw (le-ltb 65535 number h)
          (crowded-on repeat o (λ y. y) (λ y. subst Opened e (of-axis Open a x y)) (ltb 63 n) _ _ (λ t. (a, x, ltb-true 63 n t))
          (λ t y. omega (arith, ltb-false 63 n t, of-axis (λ z. 64 ≤ length (components_of z.template)) a x y)))

  end_first : (a : Axis) → Of fs end → OnAxis fs a → First StepRow (end_step (view_in v a)).fault
  unfolding end_step
  end_first a o x = go (view_in v a).unended refl
    where
      go : (u : Unended) → (view_in v a).unended ≡ u → First StepRow (end_by (view_in v a) u).fault
      go none e = both 1 0 end o (λ y. y) (only_yes unread refl (end, o, (a, x, λ y. subst Opened e y))) (only_no crowded refl (λ y. at-kind CrowdedBy end o y)) (first_one 1 0 refl)
      go (inside r) e = neither end o (λ y. y) (λ y. of-axis (λ z. Open z → ⊥) a x y (subst Opened (sym e) tt)) (λ y. y)

  -- a row: a late one draws nothing
  wide-yes : (p : Picture) (n : ℕ) → other_width p n ≡ true → (p ≡ [] → ⊥) × (n ≡ width_of p → ⊥)
  wide-yes [] n e = absurd (false≢true e)
  wide-yes (ws ∷ p) n e = (λ z. omega (arith, ap length z), λ z. differ (eqb n (length ws)) refl e z)
    where
      differ : (t : Bool) → eqb n (length ws) ≡ t → not t ≡ true → n ≡ length ws → ⊥
      differ true q y z = false≢true y
      differ false q y z = eqb-false n (length ws) q z

  wide-no : (p : Picture) (n : ℕ) → other_width p n ≡ false → (p ≡ [] → ⊥) → (n ≡ width_of p → ⊥) → ⊥
  wide-no [] n e h k = h refl
  wide-no (ws ∷ p) n e h k = alike (eqb n (length ws)) refl e
    where
      alike : (t : Bool) → eqb n (length ws) ≡ t → not t ≡ false → ⊥
      alike true q y = k (eqb-true n (length ws) q)
      alike false q y = false≢true (sym y)

  row_first : Of fs row → First StepRow (cond (late_at 2 v.stage) (accepted v) (picture_step v (drop 1 fs))).fault
  unfolding picture_step first_of rank_of
  row_first o = go (late_at 2 v.stage) refl
    where
      p : Picture
      p = v.picture

      many : Bool
      many = leb 10000 (length p)

      names : Bool
      names = ltb 64 (length (areas_of (with_words p (drop 1 fs))))

      faults : (a b c : Bool) → first_of 0 (first_of (cond (a || b) 8 0) (cond c 13 0)) ≡ (cond a (refused 8 v) (cond b (refused 8 v) (cond c (refused 13 v) (accepted (drawn_row v (drop 1 fs)))))).fault
      faults true b true = refl
      faults true b false = refl
      faults false true true = refl
      faults false true false = refl
      faults false false true = refl
      faults false false false = refl

      crowd : (a b : Bool) → many ≡ a → names ≡ b → (a || b) ≡ true → ManyNames p fs
      crowd true b d e z = inl (leb-true 10000 (length p) d)
      crowd false true d e z = inr (ltb-true 64 (length (areas_of (with_words p (drop 1 fs)))) e)
      crowd false false d e z = absurd (false≢true z)

      room-left : (a b : Bool) → many ≡ a → names ≡ b → (a || b) ≡ false → ManyNames p fs → ⊥
      room-left true b d e z m = false≢true (sym z)
      room-left false true d e z m = false≢true (sym z)
      room-left false false d e z (inl m) = omega (arith, leb-false 10000 (length p) d, m)
      room-left false false d e z (inr m) = omega (arith, ltb-false 64 (length (areas_of (with_words p (drop 1 fs)))) e, m)

      go : (t : Bool) → late_at 2 v.stage ≡ t → First StepRow (cond t (accepted v) (picture_step v (drop 1 fs))).fault
      go true e = let l = late_yes 2 v.stage e in neither row o (λ y. y.0 l) (λ y. y) (λ y. y.0 l)
      go false e =
          let timely = late-no 2 v.stage e in
          subst (First StepRow) (faults many names (other_width p (length (drop 1 fs))))
          (firsts-by some_number (only_no unread refl (λ x. at-kind MisnestedBy row o x))
          (firsts-by some_number
          (only_if crowded (many || names) (λ z. (row, o, (timely, crowd many names refl refl z))) (λ z x. room-left many names refl refl z (at-kind CrowdedBy row o x).1))
          (only_if unequal (other_width p (length (drop 1 fs))) (λ z. let y = wide-yes p (length (drop 1 fs)) z in (row, o, (timely, y.0, y.1)))
          (λ z x. let y = at-kind UnequalBy row o x in wide-no p (length (drop 1 fs)) z y.1 y.2))))

  pub step-first : (r : Record) → IsRecord r → Says fs r → Bounded fs r → First StepRow (record_step v fs r).fault
  unfolding record_step area_step place_step cell_step name_step spare_step item_step extra_step axis_step
  step-first (Fault n) i s b = absurd i
  step-first (AxisLine a) i (o, x) b = neither axis o (λ y. y) (λ y. y) (λ y. y)
  step-first (AreaLine a) i o b =
      rw (
        edge_in_lem a.rowstart b.rows.0 (omega (arith, b.rows.1, b.rows.2)),
        edge_in_lem a.rowend (omega (arith, b.rows.0, b.rows.1)) b.rows.2,
        edge_in_lem a.columnstart b.columns.0 (omega (arith, b.columns.1, b.columns.2)),
        edge_in_lem a.columnend (omega (arith, b.columns.0, b.columns.1)) b.columns.2,
        le-ltb 32 (length (at fs 1)) b.named.few,
      )
      (crowded-if area o (λ y. y) (λ y. y) (leb 64 (length v.areas)) _ _ (leb-true 64 (length v.areas)) (λ t y. omega (arith, leb-false 64 (length v.areas) t, y)))
  step-first (Name a) i (o, x) b =
      let n = at fs 2 in
      crowded-as (named_fault (length n) 8) (rw (le-ltb 32 (length n) b.few)) name o (λ y. y) (λ y. y) (no_room 4096 32768 (length (axis_names (view_in v a))) (length (axis_bytes (view_in v a))) (length n)) _ _
      (λ t. (a, x, no_room_lem (view_in v a) n b.few t)) (λ t y. room (view_in v a) n t (of-axis (NoRoomFor n) a x y))
  step-first (Track a min max) i (o, x) b = track-first a o x min max
  step-first (Repeat a n) i (o, x) b = repeat-first a o x n.kind n.number b.most
  step-first (End a) i (o, x) b = end_first a o x
  step-first (Spare a min max) i (o, x) b =
      let n = length (view_in v a).spares in
      crowded-on spare o (λ y. y) (λ y. y) (ltb 63 n) _ _ (λ t. (a, x, ltb-true 63 n t))
      (λ t y. omega (arith, ltb-false 63 n t, of-axis (λ z. 64 ≤ length z.spares) a x y))
  step-first (Extra a n p) i (o, x) b = neither extra o (λ y. y) (λ y. y) (λ y. y)
  step-first (Item a j) i (o, x) b = rw (le-ltb 29999 j b) (neither item o (λ y. y) (λ y. y) (λ y. y))
  step-first (Place a s e) i (o, x) b =
      limited-first place o (λ y. y) (λ y. y) (ends_fault (placed_end (at fs 3) s) (placed_end (at fs 6) e)) _
      (ends_none (placed_end (at fs 3) s) (placed_end (at fs 6) e) (good-end (at fs 3) s b.0) (good-end (at fs 6) e b.1)) (λ y. omega (arith, y)) (λ y. omega (arith, y))
  step-first (Cell cs ce rs re) i o b =
      let c = ends_none (placed_end (at fs 2) cs) (placed_end (at fs 5) ce) (good-end (at fs 2) cs b.0.0) (good-end (at fs 5) ce b.0.1) in
      let r = ends_none (placed_end (at fs 8) rs) (placed_end (at fs 11) re) (good-end (at fs 8) rs b.1.0) (good-end (at fs 11) re b.1.1) in
      limited-first cell o (λ y. y) (λ y. y) (lower (ends_fault (placed_end (at fs 2) cs) (placed_end (at fs 5) ce)) (ends_fault (placed_end (at fs 8) rs) (placed_end (at fs 11) re))) _
      (lower-none (ends_fault (placed_end (at fs 2) cs) (placed_end (at fs 5) ce)) (ends_fault (placed_end (at fs 8) rs) (placed_end (at fs 11) re)) c r) (λ y. omega (arith, y)) (λ y. omega (arith, y))
  step-first (PictureRow n) i o b = row_first o
