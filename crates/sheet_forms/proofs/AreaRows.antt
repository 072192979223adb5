-- The fault of an `area` line: that of its parts, and where they have none, row 5. Assumes nothing.
use Prim.Native.Nat.{ℕ, ◌≤◌, ◌<◌}
use mathlib.Core.Path.{◌≡◌, refl, sym, ap, ◌∙◌, subst}
use mathlib.Core.List.{List}
use mathlib.Core.Bool.{Bool, true, false, cond}
use mathlib.Core.Logic.{inl, inr, ⊎_elim}
use native.Mathlib.Omega.{arith}
use lib.Dec.{leb, ltb→lt, lt→ltb, lit<}
use lib.IntN.{ℤ, pos}
use lib.ListN.{length}
use lib.Signed.{◌<ℤ◌}
use borrow.Author.Tests.{eq-eqb, ne_eqb, leb-true, leb-false}
use Rattle.text.specs.Spelling.{Writes}
use Rattle.sheet_forms.specs.Said.{Record}
use Rattle.sheet_forms.specs.Said.{Fault, Area}
use Rattle.sheet_forms.specs.Words.{at}
use Rattle.sheet_forms.specs.Faults.{rank_of, no_row, first_row}
use Rattle.sheet_forms.specs.Fields.{count_of, name_fault}
use Rattle.sheet_forms.specs.Records.{unless, edges_of, area_line, fault_of}
use Rattle.sheet_forms.specs.Forms.{area, parts_of, Of}
use Rattle.sheet_forms.specs.Rows.{Row, unread, bad_name, bad_value, bad_count, bad_area, number_of, Holds, NotBelow, First}
use Rattle.sheet_forms.proofs.Firsts.{first_zero, first_none, numbers, at_none, at-area}
use Rattle.sheet_forms.proofs.FieldRows.{writes_once, count_writes}
use Rattle.sheet_forms.proofs.LineRows.{faults, SomeHolds, parts_first, line-holds, line-not}

not-below : (f g : List ℕ) (a b : ℕ) → Writes f (pos a) → Writes g (pos b) → b ≤ a → NotBelow f g
not-below f g a b v w h = (pos a, pos b, v, w, λ l. omega (arith, ltb→lt a b l.lt))

below : (f g : List ℕ) (a b : ℕ) → Writes f (pos a) → Writes g (pos b) → a < b → NotBelow f g → ⊥
below f g a b v w h (y, z, s, t, n) =
    let p : pos a ≡ y = writes_once f (pos a) y v s in
    let q : pos b ≡ z = writes_once g (pos b) z w t in
    n (subst (λ (x : ℤ). x <ℤ z) p (subst (λ (x : ℤ). pos a <ℤ x) q (record { lt = lt→ltb a b h })))

edges_first : (fs : List (List ℕ)) (a b c d : ℕ) → Of fs area → Writes (at fs 2) (pos a) → Writes (at fs 3) (pos b) → Writes (at fs 4) (pos c) → Writes (at fs 5) (pos d)
    → ((r : Row) → (r ≡ bad_area → ⊥) → Holds fs r → ⊥) → First (Holds fs) (fault_of (edges_of a b c d))
edges_first fs a b c d of u v w x h = go (leb b a) (leb d c) refl refl
  where
    other : (r : Row) → (◌≡◌ {A = ℕ} (number_of r) 5 → ⊥) → Holds fs r → ⊥
    other r n = h r (λ e. n (ap number_of e))

    four : (k : ℕ) → k < 5 → ◌≡◌ {A = ℕ} k 5 → ⊥
    four k l e = omega arith

    go : (s t : Bool) → leb b a ≡ s → leb d c ≡ t
        → First (Holds fs) (fault_of (cond s (Fault 5) (cond t (Fault 5) (Area (record { rowstart = a; rowend = b; columnstart = c; columnend = d })))))
    go true t p q =
        at-area refl (of, inl (not-below (at fs 2) (at fs 3) a b u v (leb-true b a p)))
        (other unread (four 1 (lit< tt))) (other bad_name (four 2 (lit< tt))) (other bad_value (four 3 (lit< tt))) (other bad_count (four 4 (lit< tt)))
    go false true p q =
        at-area refl (of, inr (not-below (at fs 4) (at fs 5) c d w x (leb-true d c q)))
        (other unread (four 1 (lit< tt))) (other bad_name (four 2 (lit< tt))) (other bad_value (four 3 (lit< tt))) (other bad_count (four 4 (lit< tt)))
    go false false p q =
        at_none refl
        (other unread (four 1 (lit< tt))) (other bad_name (four 2 (lit< tt))) (other bad_value (four 3 (lit< tt))) (other bad_count (four 4 (lit< tt)))
        (λ (o, n). ⊎_elim (below (at fs 2) (at fs 3) a b u v (leb-false b a p)) (below (at fs 4) (at fs 5) c d w x (leb-false d c q)) n)

edge : List (List ℕ) → ℕ → ℕ
edge fs k = (count_of 1 10001 (at fs k)).value

edge_writes : (fs : List (List ℕ)) (k : ℕ) → (count_of 1 10001 (at fs k)).fault ≡ 0 → Writes (at fs k) (pos (edge fs k))
unfolding edge
edge_writes fs k z = count_writes 1 10001 (at fs k) z

area_record : (fs : List (List ℕ)) → length fs ≡ 6 → area_line fs ≡ unless (faults fs (parts_of area)) (edges_of (edge fs 2) (edge fs 3) (edge fs 4) (edge fs 5))
unfolding area_line edge
area_record fs e = rw (eq-eqb (length fs) 6 e, first_none)

before-area : (r : Row) → rank_of 5 < rank_of (number_of r) → ⊥
unfolding rank_of
before-area unread m = omega arith
before-area bad_name m = omega arith
before-area bad_value m = omega arith
before-area bad_count m = omega arith
before-area bad_area m = omega arith

pub area_first : (fs : List (List ℕ)) → Of fs area → First (Holds fs) (fault_of (area_line fs))
area_first fs of = subst (λ (r : Record). First (Holds fs) (fault_of r)) (sym (area_record fs of.fields)) (go (faults fs (parts_of area)) refl (parts_first fs (parts_of area)))
  where
    go : (n : ℕ) → faults fs (parts_of area) ≡ n → First (SomeHolds fs (parts_of area)) n → First (Holds fs) (fault_of (unless n (edges_of (edge fs 2) (edge fs 3) (edge fs 4) (edge fs 5))))
    go n q (first_row r e s l) =
        rw (ne_eqb n 0 (λ z. numbers r (sym e ∙ z)))
        (first_row r e (line-holds fs area of r s) (λ p m. line-not fs area of p (λ z. before-area r (subst (λ (x : Row). rank_of (number_of x) < rank_of (number_of r)) z m)) (l p m)))
    go n q (no_row e h) =
        let z0 = (first_zero (name_fault (at fs 1)) _ (q ∙ e)).1 in
        let z1 = first_zero (count_of 1 10001 (at fs 2)).fault _ z0 in
        let z2 = first_zero (count_of 1 10001 (at fs 3)).fault _ z1.1 in
        let z3 = first_zero (count_of 1 10001 (at fs 4)).fault _ z2.1 in
        let z4 = first_zero (count_of 1 10001 (at fs 5)).fault _ z3.1 in
        rw (eq-eqb n 0 e)
        (edges_first fs (edge fs 2) (edge fs 3) (edge fs 4) (edge fs 5) of (edge_writes fs 2 z1.0) (edge_writes fs 3 z2.0) (edge_writes fs 4 z3.0) (edge_writes fs 5 z4.0)
        (λ r b. line-not fs area of r b (h r)))
