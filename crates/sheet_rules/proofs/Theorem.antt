-- A sheet is refused with the number and line of the row that holds at the earliest line and comes first there; it is accepted exactly if no row
-- holds at any line. Assumes nothing.
use Prim.Native.Nat.{ℕ, zero, suc, ◌+◌, ◌≤◌, ◌<◌}
use mathlib.Core.Path.{◌≡◌, refl, sym, ap, ◌∙◌, subst}
use mathlib.Core.List.{List, [], ◌∷◌}
use mathlib.Core.Bool.{Bool, true, false, cond}
use mathlib.Core.Logic.{◌⊎◌, inl, inr, ⊎_elim, ◌↔◌}
use native.Mathlib.Omega.{arith}
use native.Mathlib.Nat.{le_of_suc-le-suc}
use lib.Dec.{eqb, ltb}
use lib.ListN.{length}
use borrow.Author.Tests.{ne_eqb, eqb-true, eqb-false, ltb-true, ltb-false}
use Rattle.text.specs.Split.{split}
use Rattle.sheet_forms.specs.Faults.{rank_of, no_row, first_row}
use Rattle.sheet_forms.proofs.Order.{rank_same}
use Rattle.sheet_forms.proofs.Firsts.{firsts-by, first-same}
use Rattle.axis_tables.specs.View.{Unended, none, inside, AxisView}
use Rattle.panel_tables.specs.View.{PanelView, empty_view}
use Rattle.sheet_rules.specs.Lines.{shared_at, line_step}
use Rattle.sheet_rules.specs.Sheet.{explicit_of, entries_of, open_fault, axis_fault, end_fault, Outcome, outcome, ended, run, fold_of, broken_at, broken_from, broken_of, with_broken, display_of, no_overlap, overlap_at, overlap_from, overlap_of, chosen, sheet_of}
use Rattle.sheet_rules.specs.Rows.{Opened, Open, Row, unread, bad_name, bad_value, bad_count, bad_area, twice, late, crowded, overlap, unequal, broken, number_of, Holds, HoldsLine, HoldsAfter, HoldsFrom, HoldsAt, First, FirstAt, Nowhere}
use Rattle.sheet_rules.proofs.Only.{Only, only_no, only_yes, only_if, some_number}
use Rattle.sheet_rules.specs.Contents.{Line, lines_from}
use Rattle.sheet_rules.proofs.LineTheorem.{line_first, line-former, line-overlap}
use Rattle.sheet_rules.proofs.Pictures.{broken-yes, broken-no, broken-stage}
use Rattle.sheet_rules.proofs.Apart.{overlap-none}

-- ---- the line after the last

module _ (x : AxisView) where
  abbrev AxisRows : Row → Type 0
  AxisRows r = Only unread (Open x) r ⊎ (Only bad_count (10000 < explicit_of x) r ⊎ Only crowded (4096 < length (entries_of x)) r)

  open-first : (u : Unended) → First (Only unread (Opened u)) (open_fault u)
  open-first none = only_no unread refl (λ y. y)
  open-first (inside r) = only_yes unread refl tt

  axis_first : First AxisRows (axis_fault x)
  axis_first =
      firsts-by some_number (open-first x.unended)
      (firsts-by some_number
      (only_if bad_count (ltb 10000 (explicit_of x)) (ltb-true 10000 (explicit_of x)) (λ e y. omega (arith, ltb-false 10000 (explicit_of x) e, y)))
      (only_if crowded (ltb 4096 (length (entries_of x))) (ltb-true 4096 (length (entries_of x))) (λ e y. omega (arith, ltb-false 4096 (length (entries_of x)) e, y))))

module _ (v : PanelView) where
  after-to : (r : Row) → AxisRows v.columns r ⊎ AxisRows v.rows r → HoldsAfter v r
  after-to r (inl (inl (e, x))) = subst (HoldsAfter v) (sym e) (inl x)
  after-to r (inl (inr (inl (e, x)))) = subst (HoldsAfter v) (sym e) (inl x)
  after-to r (inl (inr (inr (e, x)))) = subst (HoldsAfter v) (sym e) (inl x)
  after-to r (inr (inl (e, x))) = subst (HoldsAfter v) (sym e) (inr x)
  after-to r (inr (inr (inl (e, x)))) = subst (HoldsAfter v) (sym e) (inr x)
  after-to r (inr (inr (inr (e, x)))) = subst (HoldsAfter v) (sym e) (inr x)

  after-not : (r : Row) → (AxisRows v.columns r ⊎ AxisRows v.rows r → ⊥) → HoldsAfter v r → ⊥
  after-not unread h (inl x) = h (inl (inl (refl, x)))
  after-not unread h (inr x) = h (inr (inl (refl, x)))
  after-not bad_name h x = x
  after-not bad_value h x = x
  after-not bad_count h (inl x) = h (inl (inr (inl (refl, x))))
  after-not bad_count h (inr x) = h (inr (inr (inl (refl, x))))
  after-not bad_area h x = x
  after-not twice h x = x
  after-not late h x = x
  after-not crowded h (inl x) = h (inl (inr (inr (refl, x))))
  after-not crowded h (inr x) = h (inr (inr (inr (refl, x))))
  after-not overlap h x = x
  after-not unequal h x = x
  after-not broken h x = x

  pub after_first : First (HoldsAfter v) (end_fault v)
  unfolding end_fault
  after_first = first-same after-to after-not (firsts-by some_number (axis_first v.columns) (axis_first v.rows))

-- ---- the first row of the earliest line, where lines are counted from `from`

pub data Found (holds : ℕ → Row → Type 0) (from n line : ℕ) : Type 0 where
  nowhere : n ≡ 0 → line ≡ 0 → Nowhere holds → Found holds from n line
  found : (k : ℕ) (r : Row) → n ≡ number_of r → line ≡ from + k → FirstAt holds k r → Found holds from n line

module _ {holds : ℕ → Row → Type 0} (from : ℕ) where
  -- the first line has a fault
  stopped : {n : ℕ} → First (holds 0) n → (n ≡ 0 → ⊥) → Found holds from n from
  stopped (no_row e h) z = absurd (z e)
  stopped (first_row r e h m) z = found 0 r e (omega arith) (record { here = h; first = m; earliest = λ j w. absurd (omega arith) })

  -- no row holds at the first line
  later : {n line : ℕ} → ((r : Row) → holds 0 r → ⊥) → Found (λ k. holds (suc k)) (from + 1) n line → Found holds from n line
  later empty (nowhere e l h) = nowhere e l every
    where
      every : Nowhere holds
      every zero r x = empty r x
      every (suc k) r x = h k r x
  later empty (found k r e l h) = found (suc k) r e (l ∙ omega arith) (record { here = h.here; first = h.first; earliest = before })
    where
      before : (j : ℕ) → j < suc k → (q : Row) → holds j q → ⊥
      before zero w q x = empty q x
      before (suc j) w q x = h.earliest j (le_of_suc-le-suc w) q x

none-holds : {holds : Row → Type 0} {n : ℕ} → n ≡ 0 → First holds n → (r : Row) → holds r → ⊥
none-holds z (no_row e h) = h
none-holds z (first_row r e h l) = absurd (some_number r (sym e ∙ z))

ended-found : (holds : ℕ → Row → Type 0) (from : ℕ) (v : PanelView) → ((r : Row) → HoldsAfter v r → holds 0 r) → ((r : Row) → holds 0 r → HoldsAfter v r)
    → ((k : ℕ) (r : Row) → holds (suc k) r → ⊥) → Found holds from (ended from v).fault (ended from v).line
unfolding ended
ended-found holds from v to back past = go (eqb (end_fault v) 0) refl
  where
    there : First (holds 0) (end_fault v)
    there = first-same to (λ r h x. h (back r x)) (after_first v)

    go : (t : Bool) → eqb (end_fault v) 0 ≡ t → Found holds from (cond t (outcome 0 0 v) (outcome (end_fault v) from v)).fault (cond t (outcome 0 0 v) (outcome (end_fault v) from v)).line
    go true e = nowhere refl refl every
      where
        every : Nowhere holds
        every zero r x = none-holds (eqb-true (end_fault v) 0 e) there r x
        every (suc k) r x = past k r x
    go false e = stopped from there (eqb-false (end_fault v) 0 e)

unended_found : (l : List ℕ) (from : ℕ) (v : PanelView)
    → let o = cond (eqb (length l) 0) (ended from v) (outcome 1 from v) in Found (λ k. HoldsFrom k (l ∷ []) v) from o.fault o.line
unended_found [] from v = ended-found (λ k. HoldsFrom k ([] ∷ []) v) from v (λ r x. x) (λ r x. x) (λ k r x. x)
unended_found (b ∷ l) from v = rw (ne_eqb (suc (length l)) 0 (λ e. omega arith)) (found 0 unread refl (omega arith) (record { here = refl; first = lower; earliest = λ j w. absurd (omega arith) }))
  where
    lower : (q : Row) → rank_of (number_of q) < rank_of 1 → q ≡ unread → ⊥
    lower q m e = omega (arith, m, ap (λ (x : Row). rank_of (number_of x)) e)

-- what the lines are judged by: an overlap among them, a broken picture, or the outcome where neither is a fault
abbrev judged : ℕ → List (List ℕ) → PanelView → Outcome
judged from ls v = chosen (overlap_from from ls v) (with_broken (broken_from from ls v) (run from ls v))

-- 14 comes last of the rows at one line
last_rank : (r : Row) → rank_of 14 < rank_of (number_of r) → ⊥
unfolding rank_of
last_rank unread m = omega arith
last_rank bad_name m = omega arith
last_rank bad_value m = omega arith
last_rank bad_count m = omega arith
last_rank bad_area m = omega arith
last_rank twice m = omega arith
last_rank late m = omega arith
last_rank crowded m = omega arith
last_rank overlap m = omega arith
last_rank unequal m = omega arith
last_rank broken m = omega arith

module _ (v : PanelView) (fs : Line) (after : List Line) where
  -- a line with a fault of its own
  line-more : {n : ℕ} → (n ≡ 0 → ⊥) → First (Holds v fs) n → First (HoldsLine v fs after) n
  line-more z (no_row e h) = absurd (z e)
  line-more z (first_row r e h l) = first_row r e (inl h) (λ q m. ⊎_elim (l q m) (λ (x, y). last_rank r (subst (λ (p : Row). rank_of (number_of p) < rank_of (number_of r)) x m)))

  -- a line with none, that is the last row of a broken picture
  line-broken : (line_step v fs).fault ≡ 0 → ((r : Row) → Holds v fs r → ⊥) → broken_at (line_step v fs).panel fs after ≡ true → First (HoldsLine v fs after) 14
  line-broken z h e =
      first_row broken refl (inr (refl, broken-yes v fs after z e)) (λ q m. ⊎_elim (h q) (λ (x, y). omega (arith, m, ap (λ (p : Row). rank_of (number_of p)) x)))

  -- and that is not
  line-whole : (line_step v fs).fault ≡ 0 → ((r : Row) → Holds v fs r → ⊥) → broken_at (line_step v fs).panel fs after ≡ false → (r : Row) → HoldsLine v fs after r → ⊥
  line-whole z h e r = ⊎_elim (h r) (λ (x, y). broken-no v fs after z e y)

run-found : (ls : List (List ℕ)) (from : ℕ) (v : PanelView) → 1 ≤ from → Found (λ k. HoldsFrom k ls v) from (judged from ls v).fault (judged from ls v).line
unfolding run overlap_from broken_from
run-found [] from v one = ended-found (λ k. HoldsFrom k [] v) from v (λ r x. x) (λ r x. x) (λ k r x. x)
run-found (l ∷ []) from v one = unended_found l from v
run-found (l ∷ m ∷ ls) from v one =
    go (λ w. run-found (m ∷ ls) (from + 1) w (omega arith)) (eqb (shared_at v (split 9 l)) 0) (eqb (line_step v (split 9 l)).fault 0)
    (broken_at (line_step v (split 9 l)).panel (split 9 l) (lines_from (m ∷ ls))) refl refl refl
  where
    fs : Line
    fs = split 9 l

    after : List Line
    after = lines_from (m ∷ ls)

    next : PanelView
    next = (line_step v fs).panel

    go : ((w : PanelView) → Found (λ k. HoldsFrom k (m ∷ ls) w) (from + 1) (judged (from + 1) (m ∷ ls) w).fault (judged (from + 1) (m ∷ ls) w).line)
        → (u t b : Bool) → eqb (shared_at v fs) 0 ≡ u → eqb (line_step v fs).fault 0 ≡ t → broken_at next fs after ≡ b
        → let o = chosen (cond u (cond t (overlap_from (from + 1) (m ∷ ls) next) no_overlap) (overlap_at (shared_at v fs) (length v.areas) from))
        (with_broken (cond t (cond b from (broken_from (from + 1) (m ∷ ls) next)) 0) (cond t (run (from + 1) (m ∷ ls) next) (outcome (line_step v fs).fault from v))) in
        Found (λ k. HoldsFrom k (l ∷ m ∷ ls) v) from o.fault o.line
    go rest false t b d e f =
        rw (ne_eqb (length v.areas + 1) 0 (λ z. omega arith))
        (stopped from (line-more v fs after (λ z. omega arith) (subst (First (Holds v fs)) (line-overlap v fs (eqb-false (shared_at v fs) 0 d)) (line_first v fs))) (λ z. omega arith))
    go rest true true b d e f = pick b f
      where
        fine : (line_step v fs).fault ≡ 0
        fine = eqb-true (line_step v fs).fault 0 e

        none : (r : Row) → Holds v fs r → ⊥
        none = none-holds (line-former v fs (eqb-true (shared_at v fs) 0 d) ∙ fine) (line_first v fs)

        pick : (b : Bool) → broken_at next fs after ≡ b
            → let o = chosen (overlap_from (from + 1) (m ∷ ls) next) (with_broken (cond b from (broken_from (from + 1) (m ∷ ls) next)) (run (from + 1) (m ∷ ls) next)) in
            Found (λ k. HoldsFrom k (l ∷ m ∷ ls) v) from o.fault o.line
        pick true g =
            rw (overlap-none (from + 1) (m ∷ ls) next (omega (arith, broken-stage v fs after fine g)), ne_eqb from 0 (λ z. omega arith))
            (stopped from (line-broken v fs after fine none g) (λ z. omega arith))
        pick false g = later from (line-whole v fs after fine none g) (rest next)
    go rest true false b d e f =
        let some = eqb-false (line_step v fs).fault 0 e in
        stopped from (line-more v fs after some (subst (First (Holds v fs)) (line-former v fs (eqb-true (shared_at v fs) 0 d)) (line_first v fs))) some

-- ---- the sheet

pub sheet_found : (s : List ℕ) → Found (HoldsAt s) 0 (sheet_of s).fault (sheet_of s).line
unfolding sheet_of display_of fold_of broken_of overlap_of
sheet_found s = go (ltb 32768 (length s)) refl
  where
    go : (t : Bool) → ltb 32768 (length s) ≡ t
        → let o = chosen (cond t no_overlap (overlap_from 1 (split 10 s) empty_view)) (with_broken (cond t 0 (broken_from 1 (split 10 s) empty_view)) (cond t (outcome 1 0 empty_view) (run 1 (split 10 s) empty_view))) in
        Found (HoldsAt s) 0 o.fault o.line
    go true e =
        stopped 0 (first_row unread refl (refl, ltb-true 32768 (length s) e) (λ q m (z, y). lower q m z)) (λ z. omega arith)
      where
        lower : (q : Row) → rank_of (number_of q) < rank_of 1 → q ≡ unread → ⊥
        lower q m z = omega (arith, m, ap (λ (x : Row). rank_of (number_of x)) z)
    go false e = later 0 (λ r (z, y). omega (arith, ltb-false 32768 (length s) e, y)) (run-found (split 10 s) 1 empty_view (omega arith))

-- a sheet is accepted exactly if no row holds at any line
pub accepted_exactly : (s : List ℕ) → ((sheet_of s).fault ≡ 0) ↔ Nowhere (HoldsAt s)
accepted_exactly s = (λ e. go e (sheet_found s), λ h. back h (sheet_found s))
  where
    go : {n line : ℕ} → n ≡ 0 → Found (HoldsAt s) 0 n line → Nowhere (HoldsAt s)
    go e (nowhere z l h) = h
    go e (found k r z l h) = absurd (some_number r (sym z ∙ e))

    back : {n line : ℕ} → Nowhere (HoldsAt s) → Found (HoldsAt s) 0 n line → n ≡ 0
    back h (nowhere z l y) = z
    back h (found k r z l y) = absurd (h k r y.here)

-- ---- a row by its number

row_at : ℕ → Row
row_at zero = unread
row_at (suc zero) = unread
row_at (suc (suc zero)) = bad_name
row_at (suc (suc (suc zero))) = bad_value
row_at (suc (suc (suc (suc zero)))) = bad_count
row_at (suc (suc (suc (suc (suc zero))))) = bad_area
row_at (suc (suc (suc (suc (suc (suc zero)))))) = twice
row_at (suc (suc (suc (suc (suc (suc (suc zero))))))) = late
row_at (suc (suc (suc (suc (suc (suc (suc (suc zero)))))))) = crowded
row_at (suc (suc (suc (suc (suc (suc (suc (suc (suc zero))))))))) = overlap
row_at (suc (suc (suc (suc (suc (suc (suc (suc (suc (suc zero)))))))))) = overlap
row_at (suc (suc (suc (suc (suc (suc (suc (suc (suc (suc (suc zero))))))))))) = overlap
row_at (suc (suc (suc (suc (suc (suc (suc (suc (suc (suc (suc (suc zero)))))))))))) = overlap
row_at (suc (suc (suc (suc (suc (suc (suc (suc (suc (suc (suc (suc (suc zero))))))))))))) = unequal
row_at (suc (suc (suc (suc (suc (suc (suc (suc (suc (suc (suc (suc (suc (suc n)))))))))))))) = broken

row_back : (r : Row) → row_at (number_of r) ≡ r
unfolding row_at
row_back unread = refl
row_back bad_name = refl
row_back bad_value = refl
row_back bad_count = refl
row_back bad_area = refl
row_back twice = refl
row_back late = refl
row_back crowded = refl
row_back overlap = refl
row_back unequal = refl
row_back broken = refl

same_row : (p q : Row) → number_of p ≡ number_of q → p ≡ q
same_row p q e = sym (row_back p) ∙ ap row_at e ∙ row_back q

trichotomy : (a b : ℕ) → (a ≡ b) ⊎ ((a < b) ⊎ (b < a))
trichotomy a b = go (ltb a b) (ltb b a) refl refl
  where
    go : (t u : Bool) → ltb a b ≡ t → ltb b a ≡ u → (a ≡ b) ⊎ ((a < b) ⊎ (b < a))
    go true u e f = inr (inl (ltb-true a b e))
    go false true e f = inr (inr (ltb-true b a f))
    go false false e f = inl (omega (arith, ltb-false a b e, ltb-false b a f))

-- a sheet is refused by a row at a line exactly if that row holds there, none that comes first there does, and none holds at any line before
pub refused_exactly : (s : List ℕ) (k : ℕ) (r : Row) → (((sheet_of s).fault ≡ number_of r) × ((sheet_of s).line ≡ k)) ↔ FirstAt (HoldsAt s) k r
refused_exactly s k r = (λ (e, f). go e f (sheet_found s), λ h. back h (sheet_found s))
  where
    go : {n line : ℕ} → n ≡ number_of r → line ≡ k → Found (HoldsAt s) 0 n line → FirstAt (HoldsAt s) k r
    go e f (nowhere z l h) = absurd (some_number r (sym e ∙ z))
    go e f (found j q z l h) =
        subst (λ (i : ℕ). FirstAt (HoldsAt s) i r) (omega (arith, l, f)) (subst (FirstAt (HoldsAt s) j) (same_row q r (sym z ∙ e)) h)

    same_line : (j : ℕ) (q : Row) → FirstAt (HoldsAt s) k r → FirstAt (HoldsAt s) j q → j ≡ k
    same_line j q h g = pick (trichotomy j k)
      where
        pick : (j ≡ k) ⊎ ((j < k) ⊎ (k < j)) → j ≡ k
        pick (inl e) = e
        pick (inr (inl l)) = absurd (h.earliest j l q g.here)
        pick (inr (inr l)) = absurd (g.earliest k l r h.here)

    same_number_lem : (q : Row) → FirstAt (HoldsAt s) k r → FirstAt (HoldsAt s) k q → number_of q ≡ number_of r
    same_number_lem q h g = pick (trichotomy (rank_of (number_of q)) (rank_of (number_of r)))
      where
        pick : (rank_of (number_of q) ≡ rank_of (number_of r)) ⊎ ((rank_of (number_of q) < rank_of (number_of r)) ⊎ (rank_of (number_of r) < rank_of (number_of q))) → number_of q ≡ number_of r
        pick (inl e) = rank_same (number_of q) (number_of r) e
        pick (inr (inl l)) = absurd (h.first q l g.here)
        pick (inr (inr l)) = absurd (g.first r l h.here)

    back : {n line : ℕ} → FirstAt (HoldsAt s) k r → Found (HoldsAt s) 0 n line → (n ≡ number_of r) × (line ≡ k)
    back h (nowhere z l y) = absurd (y k r h.here)
    back h (found j q z l g) =
        let e = same_line j q h g in (z ∙ same_number_lem q h (subst (λ (i : ℕ). FirstAt (HoldsAt s) i q) e g), omega (arith, l, e))
