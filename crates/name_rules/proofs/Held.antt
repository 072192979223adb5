-- The marks of the rule are those of CSS's counting, which has no others; and an end without a mark is where a rule that never holds a line has it.
-- Assumes nothing.
use mathlib.Core.Path.{◌≡◌, refl, sym, ◌∙◌, ap, ap₂}
use mathlib.Core.Bool.{Bool, true, false, ◌||◌, true≢false}
use mathlib.Core.List.Memᴰ
use Prim.Native.Nat.{ℕ, zero, suc, pred, ◌+◌, ◌≤◌, min}
use native.Mathlib.Omega.{arith}
use lib.IntN.{ℤ, pos, negsuc}
use Rattle.coordinates.specs.Lines.{held, outside, uncut, to_origin_zero, to_grid_line, Within}
use Rattle.coordinates.proofs.Lines.{held_same, held_exactly, held-within, origin_zero_within, there_and_back, uncut_out}
use Rattle.name_rules.specs.Css.{AxisNames, Bytes, Side, start, end, other, way, Placement, auto, line, named, span, nspan}
use Rattle.name_rules.specs.Css.{HasLine, by_name, at_line}
use Rattle.name_rules.specs.Css as Css
use Rattle.name_rules.specs.CssMarks.{HeldEnds, LineMark, of_number, of_name, MarkedBy, of_auto, of_span, of_zero, of_line}
use Rattle.name_rules.specs.CssMarks.{beside_line_lem, beside_none, CssMarks}
use Rattle.name_rules.specs.Conditions.{NameLies, NoZero, UsedNamesLie, OnExplicitLines}
use Rattle.name_rules.specs.Rule.{named?, found, span_counted, beside_by, end_by, uncut_end}
use Rattle.name_rules.specs.Rule.{beside_held, end_held, held_ends}
use Rattle.name_rules.proofs.Resolve.{found-css, span_counts}
use Rattle.name_rules.proofs.Unique.{counts_unique, found_unique, has_line_unique, no_line_lem}

-- ---- the marks of the rule are CSS's
module _ (x : AxisNames) (small : x.explicit ≤ 10000) where
  -- a named span beside a line that a name gave
  beside-mark : (s : Side) (nm : Bytes) (n : ℕ) (b : Placement) (l : ℤ) (m : Bool) → NameLies x nm → Within l → HasLine x (other s) b l → LineMark x (other s) b m
      → MarkedBy x s b (nspan nm n) (beside_held x.explicit (named? x) (to_grid_line x.explicit l) m (span_counted x.explicit (named? x) s nm n))
  beside-mark s nm n b (pos l) m lies h has mark =
      rw (held_same (pos l) h) (beside_line_lem nm n (pos l) _ m has mark (span_counts x small s nm (pos l) n lies h))
  beside-mark s nm n b (negsuc l) m lies h has mark =
      rw (there_and_back x.explicit (negsuc l) h) (beside_line_lem nm n (negsuc l) _ m has mark (span_counts x small s nm (negsuc l) n lies h))

  -- one end p, beside the other, b
  end_marked : (s : Side) (b p : Placement) → UsedNamesLie x (other s) b → UsedNamesLie x s p → MarkedBy x s b p (end_held x.explicit (named? x) s b p)
  end_marked s b auto ub up = of_auto
  end_marked s b (line g) ub up = of_line (line g) _ (of_number g up.nonzero)
  end_marked s b (span n) ub up = of_span n
  end_marked s b (named nm i) ub up = of_line (named nm i) _ (of_name nm i _ (found-css x small nm s i up.lies))
  end_marked s auto (nspan nm n) ub up = beside_none nm n tt
  end_marked s (span m) (nspan nm n) ub up = beside_none nm n tt
  end_marked s (nspan k m) (nspan nm n) ub up = beside_none nm n tt
  end_marked s (line (pos zero)) (nspan nm n) ub up = absurd (ub.nonzero refl)
  end_marked s (line (pos (suc g))) (nspan nm n) ub up =
      beside_line_lem nm n _ _ _ (Css.numbered (pos (suc g)) ub.nonzero) (of_number (pos (suc g)) ub.nonzero)
      (span_counts x small s nm (to_origin_zero x.explicit (pos (suc g))) n (up.lies nm (Memᴰ.head refl)) (origin_zero_within x.explicit (pos (suc g))))
  end_marked s (line (negsuc g)) (nspan nm n) ub up =
      beside_line_lem nm n _ _ _ (Css.numbered (negsuc g) ub.nonzero) (of_number (negsuc g) ub.nonzero)
      (span_counts x small s nm (to_origin_zero x.explicit (negsuc g)) n (up.lies nm (Memᴰ.head refl)) (origin_zero_within x.explicit (negsuc g)))
  end_marked s (named k i) (nspan nm n) ub up =
      let f = found-css x small k (other s) i ub.lies in
      beside-mark s nm n (named k i) (held (found x.explicit (named? x) k (other s) i)) _ (up.lies nm (Memᴰ.head refl)) (held-within (found x.explicit (named? x) k (other s) i))
      (by_name k i _ (record { line = _; found = f; limited = refl })) (of_name k i _ f)

  pub marks-css : (p q : Placement) → UsedNamesLie x start p → UsedNamesLie x end q → CssMarks x p q (held_ends x.explicit (named? x) p q)
  marks-css p q up uq = record { first = end_marked start q p uq up; last = end_marked end p q up uq }

-- so are those of every placement that writes no line 0, where every name lies on an explicit line
pub marks_css_all : (x : AxisNames) → OnExplicitLines x → (p q : Placement) → NoZero p → NoZero q → CssMarks x p q (held_ends x.explicit (named? x) p q)
marks_css_all x fit p q zp zq =
    marks-css x fit.small p q (record { lies = λ nm m. fit.lies nm; nonzero = zp }) (record { lies = λ nm m. fit.lies nm; nonzero = zq })

-- ---- there is one mark for each end
line_mark_unique : (x : AxisNames) (s : Side) {p : Placement} {a b : Bool} → LineMark x s p a → LineMark x s p b → a ≡ b
line_mark_unique x s (of_number g u) (of_number h v) = refl
line_mark_unique x s (of_name nm i l p) (of_name k j m q) = ap outside (found_unique x nm s p q)

pub mark_unique : (x : AxisNames) (s : Side) {b p : Placement} {h k : Bool} → MarkedBy x s b p h → MarkedBy x s b p k → h ≡ k
mark_unique x s of_auto of_auto = refl
mark_unique x s (of_span n) (of_span m) = refl
mark_unique x s of_zero of_zero = refl
mark_unique x s of_zero (of_line p b (of_number g u)) = absurd (u refl)
mark_unique x s (of_line p b (of_number g u)) of_zero = absurd (u refl)
mark_unique x s (of_line p b m) (of_line q c n) = line_mark_unique x s m n
mark_unique x s (beside_line_lem nm n o l a has m p) (beside_line_lem k j u v b has' q r) =
    let e : l ≡ v = counts_unique x nm (way s) u 1 (suc (pred n)) l v (rw (has_line_unique x (other s) has has') at p) r in
    ap₂ (λ (c : Bool) (z : ℤ). c || outside z) (line_mark_unique x (other s) m q) e
mark_unique x s {b} (beside_line_lem nm n o l a has m p) (beside_none k j none) = absurd (no_line_lem x (other s) b none has)
mark_unique x s {b} (beside_none nm n none) (beside_line_lem k j o l a has m p) = absurd (no_line_lem x (other s) b none has)
mark_unique x s (beside_none nm n u) (beside_none k m v) = refl
mark_unique x s {b = b} {k = k} of_auto (of_line _ _ n) = elim n [ ]
mark_unique x s {b = b} {k = k} (of_span n) (of_line _ _ x9) = elim x9 [ ]
mark_unique x s {b = b} {h = h} (of_line _ _ m) of_auto = elim m [ ]
mark_unique x s {b = b} {h = h} (of_line _ _ m') (of_span m) = elim m' [ ]
mark_unique x s {b = b} {h = h} (of_line _ _ m) (beside_line_lem k j u v a has' q r) = elim m [ ]
mark_unique x s {b = b} {h = h} (of_line _ _ m) (beside_none k j none) = elim m [ ]
mark_unique x s {b = b} {k = k} (beside_line_lem nm n o l a has m p) (of_line _ _ x11) = elim x11 [ ]
mark_unique x s {b = b} {k = k} (beside_none nm n none) (of_line _ _ x12) = elim x12 [ ]

pub marks_unique : (x : AxisNames) (p q : Placement) (h k : HeldEnds) → CssMarks x p q h → CssMarks x p q k → h ≡ k
marks_unique x p q h k a b =
    let f : h.first ≡ k.first = mark_unique x start a.first b.first in
    let l : h.last ≡ k.last = mark_unique x end a.last b.last in
    λ i. record { first = f i; last = l i }

-- ---- no mark, no difference

-- neither of two marks
neither : (a b : Bool) → (a || b) ≡ false → (a ≡ false) × (b ≡ false)
neither true b e = absurd (true≢false e)
neither false b e = (refl, e)

module _ (explicit : ℕ) (names : Bytes → ℕ → Bool) where
  -- a grid line of an origin-zero line is that line, however far away
  back-uncut : (l : ℕ) → uncut explicit (to_grid_line explicit (negsuc l)) ≡ negsuc l
  back-uncut l = uncut_out explicit (suc (l + explicit)) (omega arith) ∙ ap negsuc (omega arith)

  -- a span counted from the same line, and its own line not held
  counted_same : (f : ℤ → ℤ) (a b : ℤ) → a ≡ b → outside (f b) ≡ false → at_line (to_grid_line explicit (f a)) ≡ at_line (to_grid_line explicit (held (f b)))
  counted_same f a b e o = ap (λ (l : ℤ). at_line (to_grid_line explicit l)) (ap f e ∙ sym ((held_exactly (f b)).1 o))

  -- beside a written line
  beside_same : (g : ℤ) (f : ℤ → ℤ) → beside_held explicit names g (outside (uncut explicit g)) f ≡ false
      → beside_by (λ z. z) explicit names g f ≡ beside_by held explicit names g f
  beside_same (pos zero) f h = refl
  beside_same (pos (suc g)) f h = let (a, b) = neither _ _ h in counted_same f _ _ (sym ((held_exactly (uncut explicit (pos (suc g)))).1 a)) b
  beside_same (negsuc g) f h = let (a, b) = neither _ _ h in counted_same f _ _ (sym ((held_exactly (uncut explicit (negsuc g))).1 a)) b

  -- beside a named line
  beside-found : (z : ℤ) (f : ℤ → ℤ) → beside_held explicit names (to_grid_line explicit (held z)) (outside z) f ≡ false
      → beside_by (λ z. z) explicit names (to_grid_line explicit z) f ≡ beside_by held explicit names (to_grid_line explicit (held z)) f
  beside-found (pos l) f h =
      let (a, b) = neither _ _ h in
      let e : held (pos l) ≡ pos l = (held_exactly (pos l)).1 a in
      counted_same f (pos l) _ (sym (ap held e ∙ e)) b
  beside-found (negsuc l) f h =
      let (a, b) = neither _ _ h in
      let e : held (negsuc l) ≡ negsuc l = (held_exactly (negsuc l)).1 a in
      counted_same f _ _ (back-uncut l ∙ sym (ap held (back-uncut (min l 9999) ∙ e) ∙ e)) b

  -- where an end has no mark, a rule that never holds a line resolves it alike
  pub unmarked-same : (s : Side) (b p : Placement) → end_held explicit names s b p ≡ false
      → uncut_end explicit names s b p ≡ end_by held explicit names s b p
  unmarked-same s b auto h = refl
  unmarked-same s b (line g) h = refl
  unmarked-same s b (span n) h = refl
  unmarked-same s b (named nm i) h =
      ap (λ (l : ℤ). at_line (to_grid_line explicit l)) (sym ((held_exactly (found explicit names nm s i)).1 h))
  unmarked-same s auto (nspan nm n) h = refl
  unmarked-same s (span m) (nspan nm n) h = refl
  unmarked-same s (nspan k m) (nspan nm n) h = refl
  unmarked-same s (line g) (nspan nm n) h = beside_same g (span_counted explicit names s nm n) h
  unmarked-same s (named k i) (nspan nm n) h = beside-found (found explicit names k (other s) i) (span_counted explicit names s nm n) h
