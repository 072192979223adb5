-- Single tracks in a row. Assumes nothing.
use Prim.Native.Nat.{ℕ, zero, suc, ◌+◌, ◌-◌, ◌/◌, ◌%◌, ◌≤◌, ◌<◌, min}
use native.Mathlib.Omega.{arith}
use native.Mathlib.Nat.{add-zero, sub-zero}
use mathlib.Core.Path.{◌≡◌, refl, sym, ap, subst, ◌∙◌}
use mathlib.Core.Bool.{Bool, true, false, cond, ◌&&◌}
use mathlib.Core.List.{List, [], ◌∷◌}
use lib.Dec.{eqb}
use lib.ListN.{length, get_or, drop, length-drop}
use Rattle.std.specs.List.{prefix_len, zip, range_with_len}
use Rattle.std.proofs.lemmas.List.{get_or-drop}
use borrow.Author.Tests.{eqb-true}
use Rattle.template_rules.specs.declared.RepetitionCount.TheVariants.{Single, Count, AutoFill, AutoFit}
use Rattle.template_rules.specs.declared.GridTemplateComponent.{GridTemplateComponent}
use Rattle.template_rules.specs.Template.{component_of}
use Rattle.track_rules.specs.declared.TrackSource.TheVariants.{Template}
use Rattle.track_rules.specs.Steps.{word_total, sum_of, cursor}
use Rattle.track_record.specs.Repeats.{repeated_of}
use Rattle.track_record.proofs.Components.{totals, total_at, Runs, runs_on, sum-on}
use Rattle.library_records.specs.Parts.{is_single, single_at, singles_of, singles_at}

-- ---- counting them

-- those at the front of the words beside the places
pub singles_beside : (first : ℕ) (ws : List ℕ) (n : ℕ) → prefix_len (λ p. single_at p.1 p.0) (zip ws (range_with_len first n)) ≡ singles_of first ws n
unfolding singles_of
singles_beside first [] n = refl
singles_beside first (w ∷ ws) zero = refl
singles_beside first (w ∷ ws) (suc n) = let e : first + 1 ≡ suc first = omega arith in ap (λ (k : ℕ). cond (single_at first w) (1 + prefix_len (λ p. single_at p.1 p.0) (zip ws (range_with_len k n))) 0) e ∙ ap (λ (k : ℕ). cond (single_at first w) k 0) (add-comm-one (prefix_len (λ p. single_at p.1 p.0) (zip ws (range_with_len (suc first) n))) ∙ ap suc (singles_beside (suc first) ws n))
  where
    add-comm-one : (k : ℕ) → 1 + k ≡ suc k
    add-comm-one k = omega arith

-- ---- what they are

kind_single : (b b₁ b₂ : Bool) (n : ℕ) → is_single (cond b Single (cond b₁ (Count n) (cond b₂ AutoFill AutoFit))) ≡ true → b ≡ true
kind_single true b₁ b₂ n e = refl
kind_single false true b₂ n e = e
kind_single false false true n e = e
kind_single false false false n e = e

both_first : (x y : Bool) → (x && y) ≡ true → x ≡ true
both_first true y e = refl
both_first false y e = e

both-last : (x y : Bool) → (x && y) ≡ true → y ≡ true
both-last true y e = e
both-last false true e = refl
both-last false false e = e

single_kind : (place w : ℕ) → single_at place w ≡ true → eqb (w / 65536 % 4) 0 ≡ true
unfolding single_at
single_kind place w e =
    kind_single (eqb (w / 65536 % 4) 0) (eqb (w / 65536 % 4) 1) (eqb (w / 65536 % 4) 2) (w % 65536) (both_first (is_single (component_of w).count) (eqb (component_of w).first place) e)

single_total : (r place w : ℕ) → single_at place w ≡ true → word_total r w ≡ 1
unfolding word_total
single_total r place w e = rw (single_kind place w e)

pub single_repeated : (place w : ℕ) → single_at place w ≡ true → repeated_of w ≡ record { first = place; length = 1; source = Template; fit = false }
unfolding repeated_of single_at
single_repeated place w e =
    let f : (component_of w).first ≡ place = eqb-true (component_of w).first place (both-last (is_single (component_of w).count) (eqb (component_of w).first place) e) in
    rw (single_kind place w e) (ap (λ (n : ℕ). record { first = n; length = 1; source = Template; fit = false }) f)

-- from a component and whether it is single
module _ (place w : ℕ) (x : GridTemplateComponent) (b : Bool) (e : x ≡ component_of w) (f : b ≡ is_single x.count) where
  kind-known : b ≡ is_single (component_of w).count
  kind-known = f ∙ ap (λ (y : GridTemplateComponent). is_single y.count) e

-- so many are there
pub singles_fit : (first : ℕ) (ws : List ℕ) (n : ℕ) → (singles_of first ws n ≤ n) × (singles_of first ws n ≤ length ws)
unfolding singles_of
singles_fit first [] n = (omega arith, omega arith)
singles_fit first (w ∷ ws) zero = (omega arith, omega arith)
singles_fit first (w ∷ ws) (suc n) = go (single_at first w) (singles_fit (suc first) ws n)
  where
    go : (b : Bool) → (singles_of (suc first) ws n ≤ n) × (singles_of (suc first) ws n ≤ length ws) →
        (cond b (suc (singles_of (suc first) ws n)) 0 ≤ suc n) × (cond b (suc (singles_of (suc first) ws n)) 0 ≤ suc (length ws))
    go true h = (omega (arith, h.0), omega (arith, h.1))
    go false h = (omega arith, omega arith)

-- each of them is one
pub singles-each : (first : ℕ) (ws : List ℕ) (n j : ℕ) → j < singles_of first ws n → single_at (first + j) (get_or ws j 0) ≡ true
unfolding singles_of
singles-each first [] n j h = absurd (omega arith)
singles-each first (w ∷ ws) zero j h = absurd (omega arith)
singles-each first (w ∷ ws) (suc n) j h = go (single_at first w) refl (λ i k. singles-each (suc first) ws n i k) j h
  where
    go : (b : Bool) → single_at first w ≡ b → ((i : ℕ) → i < singles_of (suc first) ws n → single_at (suc first + i) (get_or ws i 0) ≡ true) →
        (j : ℕ) → j < cond b (suc (singles_of (suc first) ws n)) 0 → single_at (first + j) (get_or (w ∷ ws) j 0) ≡ true
    go true e rest zero h = rw (add-zero first) e
    go true e rest (suc j) h = let s : first + suc j ≡ suc first + j = omega arith in rw s (rest j (omega arith))
    go false e rest j h = absurd (omega arith)

-- where some start at a cursor, it is at the start of a component
pub single_start : (ws : List ℕ) (k o n m : ℕ) → m ≡ singles_at ws (cursor k o) n → (m ≡ 0 → ⊥) → (o ≡ 0) × (m ≡ singles_of (repeated_of (get_or ws k 0)).first (drop k ws) n)
unfolding singles_at
single_start ws k o n m e some = go (eqb o 0) refl e
  where
    go : (b : Bool) → eqb o 0 ≡ b → m ≡ cond b (singles_of (repeated_of (get_or ws k 0)).first (drop k ws) n) 0 → (o ≡ 0) × (m ≡ singles_of (repeated_of (get_or ws k 0)).first (drop k ws) n)
    go true z e = (eqb-true o 0 z, e)
    go false z e = absurd (some e)

-- ---- where they stand in a template

module _ (r : ℕ) (ws : List ℕ) (k first n m : ℕ) (e : m ≡ singles_of first (drop k ws) n) (small : k < length ws) where
  pub row_fits : m ≤ n
  row_fits = omega (arith, e, (singles_fit first (drop k ws) n).0)

  pub row-held : k + m ≤ length ws
  row-held = omega (arith, e, (singles_fit first (drop k ws) n).1, length-drop k ws)

  pub row-each : (j : ℕ) → j < m → single_at (first + j) (get_or ws (k + j) 0) ≡ true
  row-each j h = ap (single_at (first + j)) (sym (get_or-drop k ws j 0)) ∙ singles-each first (drop k ws) n j (subst (λ (x : ℕ). j < x) e h)

  pub row_one : (j : ℕ) → j < m → 1 ≡ min (total_at r ws (k + j) - 0) (n - j)
  row_one j h = let t : total_at r ws (k + j) ≡ 1 = single_total r (first + j) (get_or ws (k + j) 0) (row-each j h) in omega (arith, t, row_fits)

  pub row-runs : (x : ℕ) → Runs r ws x k 0 n → (j : ℕ) → j ≤ m → Runs r ws (x + j) (k + j) 0 (n - j)
  row-runs x runs zero h = rw (add-zero x, add-zero k, sub-zero n) runs
  row-runs x runs (suc j) h =
      let a : x + suc j ≡ x + j + 1 = omega arith in
      let b : k + suc j ≡ suc (k + j) = omega arith in
      let c : 0 ≡ 0 - total_at r ws (k + j) = omega arith in
      let d : n - suc j ≡ n - j - 1 = omega arith in
      let on = runs_on r ws (x + j) (k + j) 0 (n - j) 1 (row-runs x runs j (omega arith)) (omega (arith, row-held)) (row_one j (omega arith)) in
      rw (a, b, d) (subst (λ (o : ℕ). Runs r ws (x + j + 1) (suc (k + j)) o (n - j - 1)) (sym c) on)

  pub row-sum : (0 < n → 0 + n ≤ sum_of (drop k (totals r ws))) → (j : ℕ) → j ≤ m → 0 < n - j → 0 + (n - j) ≤ sum_of (drop (k + j) (totals r ws))
  row-sum sum zero h some = rw (add-zero k, sub-zero n) (sum (omega arith))
  row-sum sum (suc j) h some =
      let b : k + suc j ≡ suc (k + j) = omega arith in
      let d : n - suc j ≡ n - j - 1 = omega arith in
      let on = sum-on r ws (k + j) 0 (n - j) 1 (row-sum sum j (omega arith)) (omega (arith, row-held)) (row_one j (omega arith)) (omega arith) in
      rw b (omega (arith, on))
