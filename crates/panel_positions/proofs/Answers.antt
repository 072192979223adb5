-- What one walk over the records of an axis answers is what both calls cite. Assumes nothing.
use Prim.Native.Nat.{ℕ, zero, suc, ◌+◌, ◌*◌, ◌≤◌}
use native.Mathlib.Omega.{arith}
use mathlib.Core.Path.{◌≡◌, refl, sym, ap, ap₂, ◌∙◌}
use mathlib.Core.Bool.{Bool, true, false, cond, not, ◌&&◌, ◌||◌, true≢false}
use mathlib.Core.List.{List}
use lib.Dec.{eqb, ltb}
use lib.IntN.{ℤ, pos, ◌-ℤ◌}
use lib.Ieee.{Float}
use lib.ListN.{length}
use borrow.Author.Tests.{eq-eqb, ne_eqb, ltb-false}
use Rattle.coordinates.specs.declared.axis.Axis.{Axis}
use Rattle.coordinates.specs.Lines.{to_grid_line}
use Rattle.sizing.specs.Ranges.{length_in_range}
use Rattle.axis_tables.specs.Reads.{inner_in}
use Rattle.track_rules.specs.Records.{tracks_in, records_in}
use Rattle.axis_tables.specs.declared.AxisGrid.{AxisGrid}
use Rattle.panel_tables.specs.declared.Grid.{Grid}
use Rattle.panel_tables.specs.Axes.{grid_in}
use Rattle.panel_tables.specs.Regions.{axis_words_in}
use Rattle.panel_rules.specs.Calls.{axis_tracks}
use Rattle.line_positions.specs.declared.Span.{Span}
use Rattle.line_positions.specs.declared.LineWalk.{LineWalk}
use Rattle.line_positions.specs.Positions.{all_definite, start_of, position_of, tracks_among, nearest_of, lines_before, lines_up_to}
use Rattle.line_positions.specs.Steps.{walked_to, gathered}
use Rattle.line_positions.proofs.Walk.{walked_all, nearest_le}
use Rattle.panel_positions.specs.declared.LineAnswer.{LineAnswer}
use Rattle.panel_positions.specs.Cursor.{LinesWithin}
use Rattle.panel_positions.specs.Steps.{Sought}
use Rattle.panel_positions.specs.Cursor.{records_on, pixels, forged, cursor_refusal, grid_line_at, line_for, lines_for, nearest_on, lines_on, nearest_line, lines_within}
use Rattle.panel_positions.specs.Steps.{older_refusal, refused_sought, sought_in, sought_on}
use Rattle.panel_positions.proofs.Carrying.{records-on, tracks-among, few-tracks}

module _ (g : AxisGrid) (words items : List ℕ) (low high : ℕ) where
  abbrev refusal : ℕ
  refusal = cursor_refusal g words items low high

  abbrev older : ℕ
  older = older_refusal g (length items) low high

  abbrev whole : Bool
  whole = all_definite (inner_in g.space) (records_on g words items)

  abbrev span : Span Float
  span = record { low = pixels low; high = pixels high }

  -- the older checks come first
  pub older-first : refusal ≡ cond (eqb older 0) (cond whole 0 11) older
  unfolding cursor_refusal older_refusal
  older-first = go (not (length_in_range low && length_in_range high)) (forged g) (ltb (length items) (tracks_in (axis_tracks g))) (cond whole 0 11)
    where
      go : (a b c : Bool) (rest : ℕ) → cond a 3 (cond b 4 (cond c 10 rest)) ≡ cond (eqb (cond a 3 (cond b 4 (cond c 10 0))) 0) rest (cond a 3 (cond b 4 (cond c 10 0)))
      go true b c rest = refl
      go false true c rest = refl
      go false false true rest = refl
      go false false false rest = refl

  answered-by : (n : ℕ) → refusal ≡ n → cond (eqb n 0) (sought_in g words items low high) (refused_sought n) ≡ sought_on g words items low high
  unfolding sought_on
  answered-by n e = ap (λ (m : ℕ). cond (eqb m 0) (sought_in g words items low high) (refused_sought m)) (sym e)

  pub refused-older : (n : ℕ) (r : Sought) → n ≡ older → (n ≡ 0 → ⊥) → r ≡ refused_sought n → r ≡ sought_on g words items low high
  refused-older n r e h k =
      let f : refusal ≡ n = older-first ∙ rw (← e, ne_eqb n 0 h) in
      let z : cond (eqb n 0) (sought_in g words items low high) (refused_sought n) ≡ refused_sought n = rw (ne_eqb n 0 h) in
      k ∙ sym z ∙ answered-by n f

  -- a walk with the positions of two lengths
  pub walked_from : (x y : Float) (w : LineWalk) → x ≡ pixels low → y ≡ pixels high
      → w ≡ walked_to (record { low = x; high = y }) (inner_in g.space) (records_on g words items) (records_in (axis_tracks g))
      → w ≡ walked_to span (inner_in g.space) (records_on g words items) (records_in (axis_tracks g))
  walked_from x y w e f h = h ∙ ap₂ (λ (u v : Float). walked_to (record { low = u; high = v }) (inner_in g.space) (records_on g words items) (records_in (axis_tracks g))) e f

  -- what the walk gathers
  gathered-all : (w : LineWalk) → w ≡ walked_to span (inner_in g.space) (records_on g words items) (records_in (axis_tracks g))
      → w ≡ gathered span (position_of (inner_in g.space) (records_on g words items)) (start_of (inner_in g.space) (records_on g words items) (length (records_on g words items))) whole (suc (tracks_among (records_on g words items)))
  gathered-all w e =
      let r = records_on g words items in
      let odd : length r ≡ 2 * tracks_among r + 1 = omega (arith, records-on g words items, tracks-among g words items) in
      e ∙ ap (λ (n : ℕ). walked_to span (inner_in g.space) r n) (sym (records-on g words items)) ∙ walked_all span (inner_in g.space) r odd

  module _ (w : LineWalk) (e : w ≡ walked_to span (inner_in g.space) (records_on g words items) (records_in (axis_tracks g))) (n : ℕ) (o : n ≡ older) (z : n ≡ 0) where
    by_size : (t : Bool) → w.definite ≡ t → refusal ≡ cond t 0 11
    by_size t h =
        older-first ∙ rw (← o, eq-eqb n 0 z) (ap (λ (b : Bool). cond b 0 11) (sym (ap (λ (v : LineWalk). v.definite) (gathered-all w e)) ∙ h))

    pub refused-indefinite : (r : Sought) → w.definite ≡ false → r ≡ refused_sought 11 → r ≡ sought_on g words items low high
    refused-indefinite r h k = k ∙ answered-by 11 (by_size false h)

    pub accepted : w.definite ≡ true → record { number = 0; nearest = w.nearest; below = w.below; upto = w.upto } ≡ sought_on g words items low high
    accepted h =
        ap (λ (v : LineWalk). found v) (gathered-all w e) ∙ answered-by 0 (by_size true h)
      where
        found : LineWalk → Sought
        found v = record { number = 0; nearest = v.nearest; below = v.below; upto = v.upto }

  -- ---- the parts of what is sought

  sought-is : (n : ℕ) → refusal ≡ n → sought_on g words items low high ≡ cond (eqb n 0) (sought_in g words items low high) (refused_sought n)
  sought-is n e = sym (answered-by n e)

  pub sought-number : (sought_on g words items low high).number ≡ refusal
  sought-number = ap (λ (s : Sought). s.number) (sought-is refusal refl) ∙ go refusal
    where
      go : (n : ℕ) → (cond (eqb n 0) (sought_in g words items low high) (refused_sought n)).number ≡ n
      go zero = refl
      go (suc n) = rw (ne_eqb (suc n) 0 (λ e. omega arith))

  -- the lines around a span
  pub lines-sought : (s : Sought) → s ≡ sought_on g words items low high → record { number = s.number; below = s.below; upto = s.upto } ≡ lines_on g words items low high
  unfolding lines_on
  lines-sought s e = ap (λ (v : Sought). shown v) (e ∙ sought-is refusal refl) ∙ go refusal
    where
      shown : Sought → LinesWithin
      shown v = record { number = v.number; below = v.below; upto = v.upto }

      go : (n : ℕ) → shown (cond (eqb n 0) (sought_in g words items low high) (refused_sought n))
          ≡ lines_for n (lines_before (inner_in g.space) (records_on g words items) (pixels low)) (lines_up_to (inner_in g.space) (records_on g words items) (pixels high))
      go zero = refl
      go (suc n) = rw (ne_eqb (suc n) 0 (λ e. omega arith))

-- ---- the nearest line

module _ (g : AxisGrid) (words items : List ℕ) (cursor : ℕ) (s : Sought) (e : s ≡ sought_on g words items cursor cursor) where
  number_is : s.number ≡ cursor_refusal g words items cursor cursor
  number_is = ap (λ (v : Sought). v.number) e ∙ sought-number g words items cursor cursor

  pub nearest-refused : (s.number ≡ 0 → ⊥) → record { number = s.number; line = pos 0 } ≡ nearest_on g words items cursor
  unfolding nearest_on
  nearest-refused h = rw (← number_is, ne_eqb s.number 0 h)

  -- a refusal of 0: no count is forged
  pub counts-small : s.number ≡ 0 → (g.size.explicit ≤ 10000) × (g.implicit.negative ≤ 10000)
  unfolding cursor_refusal
  counts-small z =
      let f = unforged (not (length_in_range cursor && length_in_range cursor)) (forged g) (ltb (length items) (tracks_in (axis_tracks g))) _ (sym number_is ∙ z) in
      let h = neither (ltb 10000 g.size.explicit) _ f in
      let k = neither (ltb 10000 g.implicit.negative) _ h.1 in
      (ltb-false 10000 g.size.explicit h.0, ltb-false 10000 g.implicit.negative k.0)
    where
      unforged : (a b c : Bool) (rest : ℕ) → cond a 3 (cond b 4 (cond c 10 rest)) ≡ 0 → b ≡ false
      unforged true b c rest h = absurd (omega arith)
      unforged false true c rest h = absurd (omega arith)
      unforged false false c rest h = refl

      neither : (a b : Bool) → (a || b) ≡ false → (a ≡ false) × (b ≡ false)
      neither true b h = absurd (true≢false h)
      neither false b h = (refl, h)

  nearest-is : s.number ≡ 0 → s.nearest ≡ nearest_of (inner_in g.space) (records_on g words items) (pixels cursor)
  nearest-is z =
      ap (λ (v : Sought). v.nearest) (e ∙ sought-is g words items cursor cursor 0 (sym number_is ∙ z))

  pub place-small : s.number ≡ 0 → s.nearest ≤ 30000
  place-small z =
      let f = nearest-is z in
      let k = nearest_le (position_of (inner_in g.space) (records_on g words items)) (pixels cursor) (tracks_among (records_on g words items)) in
      let few = few-tracks g words items in
      omega (arith, tracks-among g words items)

  pub nearest-found : (line : ℤ) → s.number ≡ 0 → line ≡ to_grid_line g.size.explicit (pos s.nearest -ℤ pos g.implicit.negative) → record { number = 0; line = line } ≡ nearest_on g words items cursor
  unfolding nearest_on
  nearest-found line z l =
      let k = nearest_of (inner_in g.space) (records_on g words items) (pixels cursor) in
      ap (λ (m : ℤ). at-line m) (l ∙ ap (λ (j : ℕ). grid_line_at g j) (nearest-is z)) ∙ ap (λ (n : ℕ). line_for g n k) (sym (sym number_is ∙ z))
    where
      at-line : ℤ → LineAnswer
      at-line m = record { number = 0; line = m }

-- ---- on a panel

module _ (p : Grid) (x : Axis) (words items : List ℕ) (g : AxisGrid) (w i : List ℕ) (e : g ≡ grid_in p x) (f : w ≡ axis_words_in x words) (k : i ≡ items) where
  pub nearest-of : (cursor : ℕ) (r : LineAnswer) → r ≡ nearest_on g w i cursor → r ≡ nearest_line p words x items cursor
  unfolding nearest_line
  nearest-of cursor r h = h ∙ ap₂ (λ (y : AxisGrid) (z : List ℕ). nearest_on y z i cursor) e f ∙ ap (λ (z : List ℕ). nearest_on (grid_in p x) (axis_words_in x words) z cursor) k

  pub lines_of : (low high : ℕ) (r : LinesWithin) → r ≡ lines_on g w i low high → r ≡ lines_within p words x items low high
  unfolding lines_within
  lines_of low high r h = h ∙ ap₂ (λ (y : AxisGrid) (z : List ℕ). lines_on y z i low high) e f ∙ ap (λ (z : List ℕ). lines_on (grid_in p x) (axis_words_in x words) z low high) k
