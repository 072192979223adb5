-- CSS's answer is unique: two results for the same end are equal, whatever the names. Assumes nothing.
use mathlib.Core.Path.{◌≡◌, refl, sym, ◌∙◌, ap}
use mathlib.Core.List.{◌++◌}
use Prim.Native.Nat.{ℕ, suc, pred, ◌≤◌}
use lib.IntN.{ℤ, pos}
use Rattle.coordinates.specs.Lines.{held, to_grid_line}
use Rattle.name_rules.specs.Css.{AxisNames, Bytes, Side, start, end, other, way, suffix, Named, Way, along, Counts, CountsTo}
use Rattle.name_rules.specs.Css.{CssFound, CssLine, edged, bare, index, back, CssSpan, Placement, line, named, HasLine}
use Rattle.name_rules.specs.Css.{numbered, by_name, NoLine, Resolved, at_line, ResolvedEnds, ResolvesTo, left_auto, left_line}
use Rattle.name_rules.specs.Css.{left_span, to_line, to_span, to_one, CssEnds}
use Rattle.name_rules.specs.Conditions.{UsedNamesLie}
use Rattle.name_rules.specs.Rule.{named?, resolve}
use Rattle.name_rules.proofs.Counting.{nth_unique, nearest_unique}
use Rattle.name_rules.proofs.Resolve.{resolve-css}

pub counts_unique : (x : AxisNames) (nm : Bytes) (w : Way) (s : ℤ) (f n : ℕ) (l m : ℤ) → CountsTo x nm w s f n l → CountsTo x nm w s f n m → l ≡ m
counts_unique x nm w s f n l m p q =
    let e : p.distance ≡ q.distance = nth_unique (λ k. Counts x nm w (along w s k)) n f p.distance q.distance p.nth q.nth in
    sym p.there ∙ ap (λ (k : ℕ). along w s k) e ∙ q.there

pub found_unique : (x : AxisNames) (nm : Bytes) (s : Side) {i l m : ℤ} → CssFound x nm s i l → CssFound x nm s i m → l ≡ m
found_unique x nm s (edged a p) (edged b q) = ap pos (nearest_unique (λ k. Named x (nm ++ suffix s) (suc k)) 0 a b p q)
found_unique x nm s (edged a p) (bare b out q) = absurd (out a p.holds)
found_unique x nm s (bare a out p) (edged b q) = absurd (out b q.holds)
found_unique x nm s (bare a u p) (bare b v q) = counts_unique x nm _ _ _ _ a b p q
found_unique x nm s (index i a p) (index j b q) = counts_unique x nm _ _ _ _ a b p q
found_unique x nm s (back i a p) (back j b q) = counts_unique x nm _ _ _ _ a b p q

pub line_unique : (x : AxisNames) (nm : Bytes) (s : Side) {i l m : ℤ} → CssLine x nm s i l → CssLine x nm s i m → l ≡ m
line_unique x nm s p q = p.limited ∙ ap held (found_unique x nm s p.found q.found) ∙ sym q.limited

pub span_unique : (x : AxisNames) (nm : Bytes) (w : Way) (o : ℤ) (n : ℕ) (l m : ℤ) → CssSpan x nm w o n l → CssSpan x nm w o n m → l ≡ m
span_unique x nm w o n l m p q = p.limited ∙ ap held (counts_unique x nm w o 1 (suc (pred n)) p.line q.line p.counted q.counted) ∙ sym q.limited

pub has_line_unique : (x : AxisNames) (s : Side) {p : Placement} {l m : ℤ} → HasLine x s p l → HasLine x s p m → l ≡ m
has_line_unique x s (numbered g u) (numbered h v) = refl
has_line_unique x s (by_name nm i l p) (by_name k j m q) = line_unique x nm s p q

-- an end on no line has none
pub no_line_lem : (x : AxisNames) (s : Side) (p : Placement) {l : ℤ} → NoLine p → HasLine x s p l → ⊥
no_line_lem x s (line g) n h = n
no_line_lem x s (named nm i) n h = n
no_line_lem x s Rattle.name_rules.specs.Css.auto {l = l} n h = elim h [ ]
no_line_lem x s (Rattle.name_rules.specs.Css.span _) {l = l} n h = elim h [ ]
no_line_lem x s (Rattle.name_rules.specs.Css.nspan _ _) {l = l} n h = elim h [ ]

pub resolves_unique : (x : AxisNames) (s : Side) {b p : Placement} {r t : Resolved} → ResolvesTo x s b p r → ResolvesTo x s b p t → r ≡ t
resolves_unique x s left_auto left_auto = refl
resolves_unique x s (left_line g) (left_line h) = refl
resolves_unique x s (left_span n) (left_span m) = refl
resolves_unique x s (to_line nm i l p) (to_line k j m q) = ap (λ (a : ℤ). at_line (to_grid_line x.explicit a)) (line_unique x nm s p q)
resolves_unique x s (to_span nm n o h has p) (to_span k m u v has' q) =
    ap (λ (a : ℤ). at_line (to_grid_line x.explicit a)) (span_unique x nm (way s) u n h v (rw (has_line_unique x (other s) has has') at p) q)
resolves_unique x s {b} (to_span nm n o h has p) (to_one k m none) = absurd (no_line_lem x (other s) b none has)
resolves_unique x s {b} (to_one nm n none) (to_span k m o h has p) = absurd (no_line_lem x (other s) b none has)
resolves_unique x s (to_one nm n u) (to_one k m v) = refl

pub ends_unique : (x : AxisNames) (p q : Placement) (r t : ResolvedEnds) → CssEnds x p q r → CssEnds x p q t → r ≡ t
ends_unique x p q r t a b =
    let f : r.first ≡ t.first = resolves_unique x start a.first b.first in
    let l : r.last ≡ t.last = resolves_unique x end a.last b.last in
    λ i. record { first = f i; last = l i }

-- so the rule's answer is the only one that CSS allows
pub resolve_only : (x : AxisNames) → x.explicit ≤ 10000 → (p q : Placement) → UsedNamesLie x start p → UsedNamesLie x end q
    → (r : ResolvedEnds) → CssEnds x p q r → r ≡ resolve x.explicit (named? x) p q
resolve_only x small p q up uq r c = ends_unique x p q r _ c (resolve-css x small p q up uq)
