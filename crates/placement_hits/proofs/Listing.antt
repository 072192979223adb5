-- The list of the numbers that pass: it is written as it is defined, and is complete and in order. Assumes nothing.
use mathlib.Core.Path.{◌≡◌, refl, sym, ap, ◌∙◌}
use mathlib.Core.Bool.{Bool, true, false, cond}
use mathlib.Core.List.Memᴰ
use mathlib.Core.List.{List, ◌∷◌, Memᴰ}
use mathlib.Core.Logic.{◌⊎◌, inl, inr, ⊎_elim}
use Prim.Native.Nat.{ℕ, zero, suc, ◌+◌, ◌-◌, ◌≤◌, ◌<◌}
use native.Mathlib.Numerals.{add-one}
use native.Mathlib.Omega.{arith}
use lib.ListN.{length, get_or}
use lib.Seq.{sets}
use Rattle.coordinates.proofs.Lines.{lt_or_ge}
use Rattle.placement_hits.specs.Hits.{InOrder}
use Rattle.placement_hits.specs.Steps.{Listed, listed_of, one_listed, listed_from, passing}

-- ---- written one by one

module _ (test : ℕ → Bool) where
  -- one is looked at, and the rest follows
  pub listed-step : (i n : ℕ) (l : Listed) → i < n → listed_from test i (n - i) l ≡ listed_from test (i + 1) (n - (i + 1)) (one_listed (test i) i l)
  unfolding listed_from
  listed-step i n l h = let e : n - i ≡ suc (n - (i + 1)) = omega arith in rw e

  -- a turn leaves what is written in the end
  pub listed-turn : (i n : ℕ) (l r whole : Listed) → i < n → r ≡ one_listed (test i) i l → listed_from test i (n - i) l ≡ whole → listed_from test (i + 1) (n - (i + 1)) r ≡ whole
  listed-turn i n l r whole h e w = ap (listed_from test (i + 1) (n - (i + 1))) e ∙ sym (listed-step i n l h) ∙ w

  -- none is left
  pub listed-done : (i n : ℕ) (l : Listed) → n ≤ i → listed_from test i (n - i) l ≡ l
  unfolding listed_from
  listed-done i n l h = let e : n - i ≡ 0 = omega arith in rw e

  -- what is to be shown of a list
  abbrev After : (Listed → Listed) → List ℕ → Type 0
  After write list = (l : Listed) → write l ≡ record { count = l.count + length list; hits = sets l.hits l.count list }

  one-first : (b : Bool) (i : ℕ) (write : Listed → Listed) (rest : List ℕ) → After write rest → After (λ l. write (one_listed b i l)) (cond b (i ∷ rest) rest)
  one-first true i write rest on l =
      let e : l.count + 1 + length rest ≡ l.count + suc (length rest) = omega arith in
      on (one_listed true i l) ∙ rw (e, add-one l.count)
  one-first false i write rest on l = on l

  -- all that pass stand after those written before, one after the other
  pub listed-all : (i n : ℕ) → After (listed_from test i n) (passing test i n)
  unfolding listed_from passing
  listed-all i zero l = let e : l.count + 0 ≡ l.count = omega arith in rw e
  listed-all i (suc n) l = one-first (test i) i (listed_from test (i + 1) n) (passing test (i + 1) n) (listed-all (i + 1) n) l

  -- from the first place on
  pub listed-first : (n : ℕ) (hits : List ℕ) → listed_from test 0 n (record { count = 0; hits = hits }) ≡ listed_of (passing test 0 n) hits
  listed-first n hits = listed-all 0 n (record { count = 0; hits = hits }) ∙ let e : 0 + length (passing test 0 n) ≡ length (passing test 0 n) = omega arith in rw e

-- no more are written than were looked at
pub few-listed : (t : Bool) (i : ℕ) (l r : Listed) → r ≡ one_listed t i l → l.count ≤ i → r.count ≤ i + 1
few-listed true i l r e h = rw e (omega arith)
few-listed false i l r e h = rw e (omega arith)

-- ---- complete and in order

-- a list that starts at i: with i in front where it passes
abbrev with_first : Bool → ℕ → List ℕ → List ℕ
with_first b i rest = cond b (i ∷ rest) rest

later : (b : Bool) (i k : ℕ) (rest : List ℕ) → Memᴰ k rest → Memᴰ k (with_first b i rest)
later true i k rest m = Memᴰ.tail m
later false i k rest m = m

either : (b : Bool) (i k : ℕ) (rest : List ℕ) → Memᴰ k (with_first b i rest) → ((k ≡ i) × (b ≡ true)) ⊎ Memᴰ k rest
either true i k rest m = ⊎_elim (λ e. inl (e, refl)) (λ r. inr r) (Memᴰ.cases_cons m)
either false i k rest m = inr m

-- no element lies before a number
abbrev From : ℕ → List ℕ → Type 0
From i list = (j : ℕ) → j < length list → i ≤ get_or list j 0

abbrev Ascending : List ℕ → Type 0
Ascending list = (j k : ℕ) → j < k → k < length list → get_or list j 0 < get_or list k 0

first_from_lem : (b : Bool) (i : ℕ) (rest : List ℕ) → From (i + 1) rest → From i (with_first b i rest)
first_from_lem true i rest f zero h = omega arith
first_from_lem true i rest f (suc j) h = omega (arith, f j (omega arith))
first_from_lem false i rest f j h = omega (arith, f j h)

first_ascending : (b : Bool) (i : ℕ) (rest : List ℕ) → From (i + 1) rest → Ascending rest → Ascending (with_first b i rest)
first_ascending true i rest f up zero zero h l = absurd (omega arith)
first_ascending true i rest f up zero (suc k) h l = omega (arith, f k (omega arith))
first_ascending true i rest f up (suc j) zero h l = absurd (omega arith)
first_ascending true i rest f up (suc j) (suc k) h l = up j k (omega arith) (omega arith)
first_ascending false i rest f up j k h l = up j k h l

module _ (test : ℕ → Bool) where
  pub passing-in : (i n k : ℕ) → i ≤ k → k < i + n → test k ≡ true → Memᴰ k (passing test i n)
  unfolding passing
  passing-in i zero k h l t = absurd (omega arith)
  passing-in i (suc n) k h l t =
      ⊎_elim
      (λ (q : i < k). later (test i) i k (passing test (i + 1) n) (passing-in (i + 1) n k (omega arith) (omega arith) t))
      (λ (q : k ≤ i). let e : k ≡ i = omega arith in let p : test i ≡ true = ap test (sym e) ∙ t in rw p (Memᴰ.head e))
      (lt_or_ge i k)

  pub passing-only : (i n k : ℕ) → Memᴰ k (passing test i n) → (i ≤ k) × (k < i + n) × (test k ≡ true)
  unfolding passing
  passing-only i zero k m = absurd (Memᴰ.not-nil m)
  passing-only i (suc n) k m =
      ⊎_elim
      (λ (q : (k ≡ i) × (test i ≡ true)). let e : k ≡ i = q.0 in (omega arith, omega arith, ap test e ∙ q.1))
      (λ r. let p = passing-only (i + 1) n k r in let a : i + 1 ≤ k = p.0 in let b : k < i + 1 + n = p.1 in (omega arith, omega arith, p.2))
      (either (test i) i k (passing test (i + 1) n) m)

  passing-from : (i n : ℕ) → From i (passing test i n)
  unfolding passing
  passing-from i zero j h = absurd (omega arith)
  passing-from i (suc n) j h = first_from_lem (test i) i (passing test (i + 1) n) (passing-from (i + 1) n) j h

  pub passing-ascending : (i n : ℕ) → Ascending (passing test i n)
  unfolding passing
  passing-ascending i zero j k h l = absurd (omega arith)
  passing-ascending i (suc n) j k h l =
      first_ascending (test i) i (passing test (i + 1) n) (passing-from (i + 1) n) (passing-ascending (i + 1) n) j k h l

  -- "each list is in placement order and complete", for what a test says exactly
  pub passing-in-order : (n : ℕ) (Member : ℕ → Type 0) → ((i : ℕ) → i < n → test i ≡ true → Member i) → ((i : ℕ) → i < n → Member i → test i ≡ true)
      → InOrder n Member (passing test 0 n)
  passing-in-order n Member to from =
      record {
        complete = λ i h m. passing-in 0 n i (omega arith) (omega arith) (from i h m);
        only = λ i m. let p = passing-only 0 n i m in let q : i < 0 + n = p.1 in let r : i < n = omega arith in (r, to i r p.2);
        ascending = λ j k h l. passing-ascending 0 n j k h l;
      }
