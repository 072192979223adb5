-- The side of a cell (CSS, 8.3.1): the code's answer is one, and there is no other. Assumes nothing.
use mathlib.Core.Path.{◌≡◌, refl, sym, ap, ◌∙◌}
use mathlib.Core.Bool.{Bool, true, false, cond}
use mathlib.Core.Logic.{⊎_elim}
use Prim.Native.Nat.{ℕ, zero, suc, ◌+◌, ◌-◌, ◌≤◌, ◌<◌, max}
use native.Mathlib.Omega.{arith}
use borrow.Author.Tests.{leb-true, leb-false, ltb-true, ltb-false, eqb-true, eqb-false, le-ltb, ne_eqb}
use Rattle.std.specs.Prelude.{Option, Some, None}
use lib.Dec.{eqb, leb, ltb, lt→ltb}
use lib.IntN.{ℤ, pos, negsuc, ◌+ℤ◌, ◌-ℤ◌}
use Rattle.coordinates.proofs.Integers.{plus_before, plus_past, minus_at, minus_past}
use Rattle.coordinates.proofs.Lines.{lt_or_ge}
use Rattle.name_rules.specs.Css.{Resolved, free, at_line, spanning, ResolvedEnds}
use Rattle.name_rules.specs.CssOrder.{OrderedLines, in_order, swapped, one_track}
use Rattle.name_rules.proofs.CssOrder.{ordered_exist, ordered_unique}
use Rattle.cell_sides.specs.Css.{End, auto, line, span, end_of, Extent, between, automatic, CssExtent, two_lines_lem, span_ahead, span_back, start_alone, end_alone, two_spans, start_span, end_span, nothing, Among, SideOf, inside, leaves, anywhere, CssSide}
use Rattle.cell_sides.specs.Steps.{line_up_to, line_back, tracks_of, end_in, side_ahead, side_back, ordered_side, side_by}
use Rattle.cell_sides.specs.declared.Side.{Side}
use Rattle.cell_sides.specs.Types.{CellEnd, fixed}
use Rattle.coordinates.specs.declared.line.GenericGridPlacement.TheVariants.{Auto, Line, Span}

pos-same : (a b : ℕ) → pos a ≡ pos b → a ≡ b
pos-same a b e = cc

never-negative : (a b : ℕ) → pos a ≡ negsuc b → ⊥
never-negative a b e = let z : ◌≡◌ {A = ℕ} 0 1 = cc in omega arith

-- a line has no number among 1 to last
abbrev pub Off : ℕ → ℤ → Type 0
Off last l = (a : ℕ) → pos a ≡ l → 1 ≤ a → a ≤ last → ⊥

-- an end as CSS has it, and as the code has read it
pub data Read (last : ℕ) : End → Option CellEnd → Type 0 where
  read-auto : Read last auto (Some Auto)
  read-span : {k : ℕ} → 1 ≤ k → Read last (span k) (Some (Span k))
  read-line : {a : ℕ} → 1 ≤ a → a ≤ last → Read last (line (pos a)) (Some (Line a))
  read_off : {l : ℤ} → Off last l → Read last (line l) None

module _ (n last : ℕ) where
  read_number : (l : ℤ) (a : ℕ) → pos a ≡ l → 1 ≤ a → Read last (line l) (line_up_to last a)
  read_number l a e h = go (leb a last) refl
    where
      go : (t : Bool) → leb a last ≡ t → Read last (line l) (cond t (Some (Line a)) None)
      go true q = rw (← e) (read-line h (leb-true a last q))
      go false q = read_off (λ b f g k. omega (arith, leb-false a last q, pos-same b a (f ∙ sym e)))

  read_back : (k : ℕ) → Read last (line (negsuc k +ℤ pos (n + 2))) (line_back n last k)
  read_back k = go (leb k n) refl
    where
      go : (t : Bool) → leb k n ≡ t → Read last (line (negsuc k +ℤ pos (n + 2))) (cond t (line_up_to last (n + 1 - k)) None)
      go true q =
          let h : k ≤ n = leb-true k n q in
          let e : n + 1 - k ≡ n + 2 - k - 1 = omega arith in
          read_number (negsuc k +ℤ pos (n + 2)) (n + 1 - k) (ap pos e ∙ plus_past k (n + 2) (omega arith)) (omega arith)
      go false q = read_off (⊎_elim at before (lt_or_ge k (n + 2)))
        where
          h : n < k
          h = leb-false k n q

          at : k < n + 2 → Off last (negsuc k +ℤ pos (n + 2))
          at w a e f g = let z : a ≡ n + 2 - k - 1 = pos-same a (n + 2 - k - 1) (e ∙ sym (plus_past k (n + 2) w)) in omega (arith, h)

          before : n + 2 ≤ k → Off last (negsuc k +ℤ pos (n + 2))
          before w a e f g = never-negative a (k - (n + 2)) (e ∙ sym (plus_before k (n + 2) w))

  read-tracks : (k : ℕ) → Read last (span (max 1 k)) (Some (Span (tracks_of k)))
  read-tracks k = go (eqb k 0) refl
    where
      go : (t : Bool) → eqb k 0 ≡ t → Read last (span (max 1 k)) (Some (Span (cond t 1 k)))
      go true q = let z : max 1 k ≡ 1 = omega (arith, eqb-true k 0 q) in rw z (read-span {k = 1} (omega arith))
      go false q = let z : max 1 k ≡ k = omega (arith, eqb-false k 0 q) in rw z (read-span {k = k} (omega (arith, eqb-false k 0 q)))

  pub reads : (x : Resolved) → Read last (end_of n x) (end_in n last x)
  reads free = read-auto
  reads (at_line (pos zero)) = read-auto
  reads (at_line (pos (suc g))) = rw (ne_eqb (suc g) 0 (omega arith)) (read_number (pos (suc g)) (suc g) refl (omega arith))
  reads (at_line (negsuc k)) = read_back k
  reads (spanning k) = read-tracks k

module _ (last : ℕ) where
  -- so many tracks from a line on, or back from it
  ahead : (a k : ℕ) → 1 ≤ a → a ≤ last → 1 ≤ k → SideOf last (between (pos a) (pos a +ℤ pos k)) (side_ahead last a k)
  ahead a k h w g = rw (le-ltb last a w) (go (ltb (last - a) k) refl)
    where
      go : (t : Bool) → ltb (last - a) k ≡ t → SideOf last (between (pos a) (pos (a + k))) (cond t None (Some (fixed a (a + k))))
      go true q = leaves (λ x y m. omega (arith, ltb-true (last - a) k q, pos-same y (a + k) m.high, m.final))
      go false q = inside {a = a} {b = a + k} (record { low = refl; high = refl; first = h; order = omega arith; final = omega (arith, ltb-false (last - a) k q) })

  ahead-off : (l hi : ℤ) → Off last l → SideOf last (between l hi) None
  ahead-off l hi off = leaves (λ x y m. off x m.low m.first (omega (arith, m.order, m.final)))

  back : (a k : ℕ) → a ≤ last → 1 ≤ k → SideOf last (between (pos a -ℤ pos k) (pos a)) (side_back k a)
  back a k w g = go (ltb k a) refl
    where
      go : (t : Bool) → ltb k a ≡ t → SideOf last (between (pos a -ℤ pos k) (pos a)) (cond t (Some (fixed (a - k) a)) None)
      go true q =
          let h : k < a = ltb-true k a q in
          inside {a = a - k} {b = a} (record { low = minus_at a k (omega arith); high = refl; first = omega arith; order = omega arith; final = w })
      go false q = leaves none
        where
          none : (x y : ℕ) → Among last (pos a -ℤ pos k) (pos a) x y → ⊥
          none x y m = ⊎_elim past at (lt_or_ge a k)
            where
              past : a < k → ⊥
              past u = never-negative x (k - a - 1) (m.low ∙ sym (minus_past a k u))

              at : k ≤ a → ⊥
              at u = omega (arith, ltb-false k a q, pos-same x (a - k) (m.low ∙ sym (minus_at a k u)), m.first)

  back-off : (lo l : ℤ) → Off last l → SideOf last (between lo l) None
  back-off lo l off = (leaves {lo = lo} {hi = l} (λ x y m. off y m.high (omega (arith, m.first, m.order)) m.final))

  -- both of two lines are among the lines where their extent is
  start-among : {s e lo hi : ℤ} {x y : ℕ} → OrderedLines s e lo hi → Among last lo hi x y → Off last s → ⊥
  start-among (in_order h) m off = off _ m.low m.first (omega (arith, m.order, m.final))
  start-among (swapped h) m off = off _ m.high (omega (arith, m.order, m.first)) m.final
  start-among (one_track h) m off = off _ m.low m.first (omega (arith, m.order, m.final))

  end-among : {s e lo hi : ℤ} {x y : ℕ} → OrderedLines s e lo hi → Among last lo hi x y → Off last e → ⊥
  end-among (in_order h) m off = off _ m.high (omega (arith, m.order, m.first)) m.final
  end-among (swapped h) m off = off _ m.low m.first (omega (arith, m.order, m.final))
  end-among (one_track h) m off = off _ (m.low ∙ h) m.first (omega (arith, m.order, m.final))

  abbrev pub Answer : End → End → Option Side → Type 0
  Answer s e side = (x : Extent) × CssExtent s e x × SideOf last x side

  two : (a b : ℕ) → 1 ≤ a → a ≤ last → 1 ≤ b → b ≤ last → Answer (line (pos a)) (line (pos b)) (ordered_side last a b)
  two a b h w g v =
      go (ltb a b) (ltb b a) refl refl
    where
      go : (t u : Bool) → ltb a b ≡ t → ltb b a ≡ u
          → Answer (line (pos a)) (line (pos b)) (cond t (Some (fixed a b)) (cond u (Some (fixed b a)) (side_ahead last a 1)))
      go true u p q = let o : a < b = ltb-true a b p in
          (between (pos a) (pos b), two_lines_lem (in_order (record { lt = lt→ltb a b o })), inside (record { low = refl; high = refl; first = h; order = o; final = v }))
      go false true p q = let o : b < a = ltb-true b a q in
          (between (pos b) (pos a), two_lines_lem (swapped (record { lt = lt→ltb b a o })), inside (record { low = refl; high = refl; first = g; order = o; final = w }))
      go false false p q = let o : a ≡ b = omega (arith, ltb-false a b p, ltb-false b a q) in
          (between (pos a) (pos a +ℤ pos 1), two_lines_lem (one_track (ap pos o)), ahead a 1 h w (omega arith))

  start-off : (s e : ℤ) → Off last s → Answer (line s) (line e) None
  start-off s e off = let o = ordered_exist s e in (between o.0 o.1, two_lines_lem o.2, leaves (λ x y m. start-among o.2 m off))

  end-off : (s e : ℤ) → Off last e → Answer (line s) (line e) None
  end-off s e off = let o = ordered_exist s e in (between o.0 o.1, two_lines_lem o.2, leaves (λ x y m. end-among o.2 m off))

  pub sides : {s e : End} {c d : Option CellEnd} → Read last s c → Read last e d → Answer s e (side_by last c d)
  sides read-auto read-auto = (automatic 1, nothing, anywhere)
  sides read-auto (read-span {k} h) = (automatic k, end_span, anywhere)
  sides read-auto (read-line {a} h w) = (between (pos a -ℤ pos 1) (pos a), end_alone, back a 1 w (omega arith))
  sides read-auto (read_off {l} off) = (between (l -ℤ pos 1) l, end_alone, back-off (l -ℤ pos 1) l off)
  sides (read-span {k} h) read-auto = (automatic k, start_span, anywhere)
  sides (read-span {k} h) (read-span {k = j} g) = (automatic k, two_spans, anywhere)
  sides (read-span {k} h) (read-line {a} g w) = (between (pos a -ℤ pos k) (pos a), span_back, back a k w h)
  sides (read-span {k} h) (read_off {l} off) = (between (l -ℤ pos k) l, span_back, back-off (l -ℤ pos k) l off)
  sides (read-line {a} h w) read-auto = (between (pos a) (pos a +ℤ pos 1), start_alone, ahead a 1 h w (omega arith))
  sides (read-line {a} h w) (read-span {k} g) = (between (pos a) (pos a +ℤ pos k), span_ahead, ahead a k h w g)
  sides (read-line {a} h w) (read-line {a = b} g v) = two a b h w g v
  sides (read-line {a} h w) (read_off {l} off) = end-off (pos a) l off
  sides (read_off {l} off) read-auto = (between l (l +ℤ pos 1), start_alone, ahead-off l (l +ℤ pos 1) off)
  sides (read_off {l} off) (read-span {k} g) = (between l (l +ℤ pos k), span_ahead, ahead-off l (l +ℤ pos k) off)
  sides (read_off {l} off) (read-line {a = b} g v) = start-off l (pos b) off
  sides (read_off {l} off) (read_off {l = m} on) = start-off l m off

-- the code's side is one that CSS gives
pub side_css : (n last : ℕ) (r : ResolvedEnds) → CssSide n last r (side_by last (end_in n last r.first) (end_in n last r.last))
side_css n last r =
    let a = sides last (reads n last r.first) (reads n last r.last) in record { extent = a.0; lies = a.1; is = a.2 }

-- ---- there is no other

extent_unique : {s e : End} {x y : Extent} → CssExtent s e x → CssExtent s e y → x ≡ y
extent_unique (two_lines_lem o) (two_lines_lem p) = let q = ordered_unique o p in cc (q.0, q.1)
extent_unique span_ahead span_ahead = refl
extent_unique span_back span_back = refl
extent_unique start_alone start_alone = refl
extent_unique end_alone end_alone = refl
extent_unique two_spans two_spans = refl
extent_unique start_span start_span = refl
extent_unique end_span end_span = refl
extent_unique nothing nothing = refl

among_unique : {last : ℕ} {lo hi : ℤ} {a b x y : ℕ} → Among last lo hi a b → Among last lo hi x y → Some (fixed a b) ≡ Some (fixed x y)
among_unique {a = a} {b} {x} {y} m k = let p = pos-same a x (m.low ∙ sym k.low) in let q = pos-same b y (m.high ∙ sym k.high) in cc (p, q)

side_of_unique : {last : ℕ} {x : Extent} {s t : Option Side} → SideOf last x s → SideOf last x t → s ≡ t
side_of_unique (inside m) (inside k) = among_unique m k
side_of_unique (inside m) (leaves h) = absurd (h _ _ m)
side_of_unique (leaves h) (inside m) = absurd (h _ _ m)
side_of_unique (leaves h) (leaves k) = refl
side_of_unique anywhere anywhere = refl

pub side_unique : (n last : ℕ) (r : ResolvedEnds) (s t : Option Side) → CssSide n last r s → CssSide n last r t → s ≡ t
side_unique n last r s t a b =
    side_of_unique a.is (rw (extent_unique b.lies a.lies) at b.is)
