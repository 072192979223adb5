-- Laws of a line that is cut once: its starts from a place on, and what lies between them. Assumes nothing.
use Prim.Native.Nat.{ℕ, zero, suc, ◌+◌, ◌-◌, ◌≤◌, ◌<◌, zero-le, suc-le-suc}
use mathlib.Core.Path.{◌≡◌, refl, sym, ap, ◌∙◌}
use mathlib.Core.List.{List, [], ◌∷◌}
use mathlib.Core.Bool.{Bool, true, false, cond}
use mathlib.Core.Logic.{⊎_elim}
use native.Mathlib.Numerals.{add-one}
use native.Mathlib.Omega.{arith}
use native.Mathlib.Nat.{zero-add, le_of_suc-le-suc, not-suc-le-zero, eq-or-lt_of_le}
use lib.Dec.{eqb, leb}
use lib.ListN.{length, get_or, take, drop, set, replicate, length-set, length-drop, length-replicate, get_or-replicate, drop_of_length-le, get_or-eq_default}
use lib.Seq.{sets, drop-cons, take_all, take-nil, length-take-le, get_or-set_same, get_or-set_other, ext_get_or}
use borrow.Author.Tests.{le-leb, lt-leb, lt-ltb, leb-true, leb-false}
use Rattle.text.specs.Split.{before, onto, split}
use Rattle.text.specs.Places.{starts_from, place_by, field_by, fields_from, fields_by}
use Rattle.text.proofs.Laws.{find-le, split-more, split-no-more}

-- ---- a part of a text: `&s[a..e]` is `take (e - a) (drop a s)`

-- nothing lies past the end
pub part_past : (s : List ℕ) (at n : ℕ) → length s ≤ at → take (length s - length s) (drop (length s) s) ≡ take n (drop at s)
part_past s at n h =
    let e : length s - length s ≡ 0 = omega arith in
    rw (e, drop_of_length-le s h) (sym (take-nil n))

-- a part that the end cuts
pub part_cut : (s : List ℕ) (at n : ℕ) → length s - at ≤ n → take (length s - at) (drop at s) ≡ take n (drop at s)
part_cut s at n h =
    take_all (length s - at) (drop at s) (rw length-drop (omega arith))
    ∙ sym (take_all n (drop at s) (rw length-drop (omega arith)))

-- a part that lies inside
pub part_inside : (s : List ℕ) (at n : ℕ) → take (at + n - at) (drop at s) ≡ take n (drop at s)
part_inside s at n = let e : at + n - at ≡ n = omega arith in rw e

-- ---- the parts from a place on; none past the length

unfoldable pub parts_from : ℕ → List ℕ → ℕ → List (List ℕ)
parts_from b s at = cond (leb at (length s)) (split b (drop at s)) []

pub parts_whole : (b : ℕ) (s : List ℕ) → parts_from b s 0 ≡ split b s
unfolding parts_from
parts_whole b s = rw (le-leb 0 (length s) zero-le)

pub parts-past : (b : ℕ) (s : List ℕ) (at : ℕ) → length s < at → parts_from b s at ≡ []
unfolding parts_from
parts-past b s at h = rw (lt-leb at (length s) h)

module _ (b : ℕ) (s : List ℕ) (at e : ℕ) (fits : at ≤ length s) (found : e ≡ at + before b (drop at s)) where
  pub parts_next : parts_from b s at ≡ take (e - at) (drop at s) ∷ parts_from b s (e + 1)
  unfolding parts_from
  parts_next =
      ⊎_elim
      (λ z. rw (le-leb at (length s) fits, lt-leb (e + 1) (length s) (omega arith)) (split-no-more b s at e fits found z))
      (λ z. rw (le-leb at (length s) fits, le-leb (e + 1) (length s) (omega arith)) (split-more b s at e fits found (λ y. omega arith)))
      (eq-or-lt_of_le (find-le b s at e fits found))

  pub starts-next : starts_from at (parts_from b s at) ≡ at ∷ starts_from (e + 1) (parts_from b s (e + 1))
  unfolding starts_from
  starts-next =
      let w : length (take (e - at) (drop at s)) ≡ e - at = length-take-le (e - at) (drop at s) (omega (arith, length-drop at s, find-le b s at e fits found)) in
      let g : at + length (take (e - at) (drop at s)) + 1 ≡ e + 1 = omega arith in
      rw parts_next (ap (λ (k : ℕ). at ∷ starts_from k (parts_from b s (e + 1))) g)

-- ---- the starts put one after the other

-- how far parts reach that stand one after the other, each with a separator after it
pub reach : List (List ℕ) → ℕ
reach [] = 0
reach (p ∷ ps) = length p + 1 + reach ps

reach_onto : (x : ℕ) (ps : List (List ℕ)) (n : ℕ) → reach ps ≡ n + 1 → reach (onto x ps) ≡ n + 2
unfolding reach onto
reach_onto x [] n e = absurd (omega (arith, e))
reach_onto x (p ∷ ps) n e = omega (arith, e)

pub reach_split : (b : ℕ) (s : List ℕ) → reach (split b s) ≡ length s + 1
unfolding reach split
reach_split b [] = refl
reach_split b (x ∷ xs) = go (eqb x b) (reach_split b xs)
  where
    go : (t : Bool) → reach (split b xs) ≡ length xs + 1 → reach (cond t ([] ∷ split b xs) (onto x (split b xs))) ≡ suc (length xs) + 1
    go true i = omega (arith, i)
    go false i = omega (arith, reach_onto x (split b xs) (length xs) i)

-- part k, and the parts after it
module _ (ps : List (List ℕ)) (k : ℕ) (p : List ℕ) (there : k < length ps) (part : p ≡ get_or ps k p) where
  part_more : drop k ps ≡ p ∷ drop (k + 1) ps
  part_more = rw add-one (drop-cons ps k p there ∙ ap (λ (q : List ℕ). q ∷ drop (suc k) ps) (sym part))

  pub reach_next : reach (drop k ps) ≡ length p + 1 + reach (drop (k + 1) ps)
  unfolding reach
  reach_next = ap reach part_more

  pub sets_next : (starts put : List ℕ) (at : ℕ) → put ≡ set starts k at
      → sets starts k (starts_from at (drop k ps)) ≡ sets put (k + 1) (starts_from (at + (length p + 1)) (drop (k + 1) ps))
  unfolding starts_from
  sets_next starts put at e =
      let g : at + length p + 1 ≡ at + (length p + 1) = omega arith in
      rw (part_more, add-one k, sym e, g)

pub sets_last : (ps : List (List ℕ)) (k : ℕ) (starts put : List ℕ) (at : ℕ) → length ps ≤ k → put ≡ set starts k at → sets starts k (starts_from at (drop k ps)) ≡ put
unfolding starts_from
sets_last ps k starts put at h e = rw (drop_of_length-le ps h, sym e)

-- ---- what lies between two starts is the part

pub length-starts : (at : ℕ) (ps : List (List ℕ)) → length (starts_from at ps) ≡ suc (length ps)
unfolding starts_from
length-starts at [] = refl
length-starts at (p ∷ ps) = ap suc (length-starts (at + length p + 1) ps)

starts_first : (at : ℕ) (ps : List (List ℕ)) → get_or (starts_from at ps) 0 0 ≡ at
unfolding starts_from
starts_first at [] = refl
starts_first at (p ∷ ps) = refl

-- what lies between start k and the next
abbrev between : List ℕ → List ℕ → ℕ → List ℕ
between xs s k = take (get_or xs (suc k) 0 - get_or xs k 0 - 1) (drop (get_or xs k 0) s)

-- where a part is left, the text is
left_inside : (b : ℕ) (s : List ℕ) (k at : ℕ) → k < length (parts_from b s at) → at ≤ length s
left_inside b s k at h = go (leb at (length s)) refl
  where
    go : (t : Bool) → leb at (length s) ≡ t → at ≤ length s
    go true e = leb-true at (length s) e
    go false e = absurd (not-suc-le-zero (rw (parts-past b s at (leb-false at (length s) e)) at h))

between-starts : (b : ℕ) (s : List ℕ) (k at : ℕ) → k < length (parts_from b s at) → between (starts_from at (parts_from b s at)) s k ≡ get_or (parts_from b s at) k []
between-starts b s zero at h =
    let e = at + before b (drop at s) in
    let f = left_inside b s 0 at h in
    let n : e + 1 - at - 1 ≡ e - at = omega arith in
    rw (starts-next b s at e f refl, parts_next b s at e f refl, starts_first (e + 1) (parts_from b s (e + 1))) (ap (λ (i : ℕ). take i (drop at s)) n)
between-starts b s (suc k) at h =
    let e = at + before b (drop at s) in
    let f = left_inside b s (suc k) at h in
    rw (starts-next b s at e f refl, parts_next b s at e f refl) (between-starts b s k (e + 1) (le_of_suc-le-suc (rw (parts_next b s at e f refl) at h)))

-- ---- starts put into zeros

-- an element of a list into which others were put from i on: before them, among them, after them
get_d_sets_before : (l : List ℕ) (i : ℕ) (xs : List ℕ) (k : ℕ) → k < i → get_or (sets l i xs) k 0 ≡ get_or l k 0
get_d_sets_before l i [] k h = refl
get_d_sets_before l i (x ∷ xs) k h = get_d_sets_before (set l i x) (suc i) xs k (omega arith) ∙ get_or-set_other l i k x 0 (λ e. omega arith)

get_d_sets : (l : List ℕ) (i : ℕ) (xs : List ℕ) (k : ℕ) → k < length xs → i + k < length l → get_or (sets l i xs) (i + k) 0 ≡ get_or xs k 0
get_d_sets l i [] k h g = absurd (not-suc-le-zero h)
get_d_sets l i (x ∷ xs) zero h g =
    let z : i + 0 ≡ i = omega arith in
    ap (λ (j : ℕ). get_or (sets (set l i x) (suc i) xs) j 0) z
    ∙ get_d_sets_before (set l i x) (suc i) xs i (omega arith) ∙ get_or-set_same l i x 0 (omega arith)
get_d_sets l i (x ∷ xs) (suc k) h g =
    let z : i + suc k ≡ suc i + k = omega arith in
    ap (λ (j : ℕ). get_or (sets (set l i x) (suc i) xs) j 0) z
    ∙ get_d_sets (set l i x) (suc i) xs k (le_of_suc-le-suc h) (omega (arith, length-set l i x))

get_d_sets_after : (l : List ℕ) (i : ℕ) (xs : List ℕ) (k : ℕ) → i + length xs ≤ k → get_or (sets l i xs) k 0 ≡ get_or l k 0
get_d_sets_after l i [] k h = refl
get_d_sets_after l i (x ∷ xs) k h = get_d_sets_after (set l i x) (suc i) xs k (omega arith) ∙ get_or-set_other l i k x 0 (λ e. omega arith)

-- the starts of the parts of s in an array of zeros
abbrev pub starts_of : ℕ → List ℕ → List ℕ
starts_of b s = sets (replicate 15 0) 0 (starts_from 0 (split b s))

length-starts_of : (b : ℕ) (s : List ℕ) → length (starts_from 0 (split b s)) ≡ suc (length (split b s))
length-starts_of b s = length-starts 0 (split b s)

start_there : (b : ℕ) (s : List ℕ) (k : ℕ) → k ≤ length (split b s) → k < 15 → get_or (starts_of b s) k 0 ≡ get_or (starts_from 0 (split b s)) k 0
start_there b s k h g =
    ap (λ (j : ℕ). get_or (starts_of b s) j 0) (sym (zero-add k))
    ∙ get_d_sets (replicate 15 0) 0 (starts_from 0 (split b s)) k (omega (arith, length-starts_of b s)) (omega (arith, length-replicate {A = ℕ} 15 0))

start-past : (b : ℕ) (s : List ℕ) (k : ℕ) → length (split b s) < k → k < 15 → get_or (starts_of b s) k 0 ≡ 0
start-past b s k h g =
    get_d_sets_after (replicate 15 0) 0 (starts_from 0 (split b s)) k (omega (arith, length-starts_of b s))
    ∙ get_or-replicate 15 k 0 0 g

-- field k by these starts is part k, empty where there is none
pub field_part : (b : ℕ) (s : List ℕ) (k : ℕ) → k < 14 → field_by (starts_of b s) s k ≡ get_or (split b s) k []
unfolding place_by
field_part b s k h = rw (lt-ltb k 14 h) (go (leb (length (split b s)) k) refl)
  where
    go : (t : Bool) → leb (length (split b s)) k ≡ t → between (starts_of b s) s k ≡ get_or (split b s) k []
    go true e =
        let past = leb-true (length (split b s)) k e in
        let none : get_or (starts_of b s) (suc k) 0 - get_or (starts_of b s) k 0 - 1 ≡ 0 = omega (arith, start-past b s (suc k) (suc-le-suc past) (suc-le-suc h)) in
        rw none (sym (get_or-eq_default (split b s) [] past))
    go false e =
        let there = leb-false (length (split b s)) k e in
        rw (start_there b s (suc k) there (suc-le-suc h), start_there b s k (omega arith) (omega arith))
        (rw (parts_whole b s) at (between-starts b s k 0 (rw (parts_whole b s) there)))

-- ---- the fields of a line

pub length_fields : (starts line : List ℕ) (k n : ℕ) → length (fields_from starts line k n) ≡ n
unfolding fields_from
length_fields starts line k zero = refl
length_fields starts line k (suc n) = ap suc (length_fields starts line (suc k) n)

get_d_fields : (starts line : List ℕ) (k n i : ℕ) → i < n → get_or (fields_from starts line k n) i [] ≡ field_by starts line (k + i)
unfolding fields_from
get_d_fields starts line k zero i h = absurd (not-suc-le-zero h)
get_d_fields starts line k (suc n) zero h = let z : k ≡ k + 0 = omega arith in ap (field_by starts line) z
get_d_fields starts line k (suc n) (suc i) h =
    let z : suc k + i ≡ k + suc i = omega arith in
    get_d_fields starts line (suc k) n i (le_of_suc-le-suc h) ∙ ap (field_by starts line) z

-- a line of at most 14 parts is cut into these
pub fields-parts : (b : ℕ) (s : List ℕ) → length (split b s) ≤ 14 → fields_by (starts_of b s) s (length (split b s)) ≡ split b s
fields-parts b s h =
    ext_get_or [] (fields_by (starts_of b s) s (length (split b s))) (split b s) (length_fields (starts_of b s) s 0 (length (split b s)))
    (λ i l.
    let j : i < length (split b s) = rw (length_fields (starts_of b s) s 0 (length (split b s))) at l in
    get_d_fields (starts_of b s) s 0 (length (split b s)) i j ∙ ap (field_by (starts_of b s) s) (zero-add i) ∙ field_part b s i (omega arith))

-- field k of a line of n fields
pub at_field : (starts line : List ℕ) (count n k : ℕ) → count ≡ n → k < n → get_or (fields_by starts line count) k [] ≡ field_by starts line k
at_field starts line count n k e h = get_d_fields starts line 0 count k (omega arith) ∙ ap (field_by starts line) (zero-add k)
