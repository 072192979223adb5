-- Searches that go from the nearest line to the next. Assumes nothing.
use mathlib.Core.Path.{◌≡◌, refl, sym, ◌∙◌, ap}
use mathlib.Core.Bool.{Bool, true, false}
use Prim.Native.Nat.{ℕ, zero, suc, ◌+◌, ◌-◌, ◌≤◌, ◌<◌, max}
use native.Mathlib.Omega.{arith}
use Rattle.name_rules.specs.Rule.{Seek, at, left, onward}
use Rattle.name_lines.specs.Marks.{walk}
use Rattle.name_lines.specs.declared.Way.{Way}
use Rattle.name_lines.specs.declared.Way.TheVariants.{Up, Down}
use Rattle.name_search.specs.Nearest.{number_at, reach, past, Nearest}
use Rattle.name_search.specs.Scans.{scan, place_at}
use Rattle.name_search.proofs.Scanning.{rest_from, rest_all, scan-end, scan_step, scan-miss, scan-hit, scan-over}

-- the search of the lines that are left after i of the k from line f on
abbrev rest : Way → (ℕ → Bool) → ℕ → ℕ → ℕ → ℕ → Seek
rest way p f k i m = scan way p (rest_from way f i) (k - i) m

-- the line that is looked at after i of them
abbrev line : Way → ℕ → ℕ → ℕ → ℕ
line way f k i = f + place_at way k i

-- one step of a search that finds nothing: nothing is passed over
left_step : (b : Bool) (l r m : ℕ) (go : ℕ → Seek) → (left r ≡ go 0 → left m ≡ go m) → left r ≡ onward b l 0 go → left m ≡ onward b l m go
left_step false l r m go h e = h e
left_step true l r m go h e = let z : ◌≡◌ {A = ℕ} 0 1 = cc in absurd (omega arith)

-- line l is the one found after d lines, and past it one less is to be passed over
record Next (way : Way) (p : ℕ → Bool) (f k i l : ℕ) : Type 0 where
  d : ℕ
  below : d < k
  found : l ≡ line way f k d
  passed : (m : ℕ) → rest way p f k i (suc m) ≡ rest way p f k (d + 1) m

module _ (way : Way) (p : ℕ → Bool) (f k : ℕ) where
  -- where no line is found, none is passed over
  rest-left : (n i r m : ℕ) → k - i ≡ n → left r ≡ rest way p f k i 0 → left m ≡ rest way p f k i m
  rest-left zero i r m s e = scan-end way p (rest_from way f i) (k - i) m s
  rest-left (suc n) i r m s e =
      let h : i < k = omega arith in
      left_step (p (line way f k i)) (line way f k i) r m _ (λ g. rest-left n (i + 1) r m (omega arith) g) (e ∙ scan_step way p f k i 0 h)
      ∙ sym (scan_step way p f k i m h)

  -- a line that is found lies among them, and the search goes on past it
  rest-next : (n i l : ℕ) → k - i ≡ n → at l ≡ rest way p f k i 0 → Next way p f k i l
  rest-next zero i l s e = let q : at l ≡ left 0 = e ∙ sym (scan-end way p (rest_from way f i) (k - i) 0 s) in let z : ◌≡◌ {A = ℕ} 0 1 = cc in absurd (omega arith)
  rest-next (suc n) i l s e = go (p (line way f k i)) refl (omega arith) (λ g. rest-next n (i + 1) l (omega arith) g)
    where
      go : (b : Bool) → p (line way f k i) ≡ b → i < k → (at l ≡ rest way p f k (i + 1) 0 → Next way p f k (i + 1) l) → Next way p f k i l
      go false q h rec =
          let n = rec (e ∙ scan-miss way p f k i h 0 q) in
          record { d = n.d; below = n.below; found = n.found; passed = λ m. scan-miss way p f k i h (suc m) q ∙ n.passed m }
      go true q h rec =
          let g : at l ≡ at (line way f k i) = e ∙ scan-hit way p f k i h 0 q refl in
          record {
            d = i;
            below = h;
            found = cc;
            passed = λ m. let t : suc m - 1 ≡ m = omega arith in scan-over way p f k i h (suc m) q (λ w. omega arith) ∙ ap (λ (j : ℕ). rest way p f k (i + 1) j) t;
          }

  -- nothing is found where no line is marked
  rest-clear : (n i m : ℕ) → k - i ≡ n → ((j : ℕ) → j < k → p (line way f k j) ≡ false) → rest way p f k i m ≡ left m
  rest-clear zero i m s c = sym (scan-end way p (rest_from way f i) (k - i) m s)
  rest-clear (suc n) i m s c = let h : i < k = omega arith in scan-miss way p f k i h m (c i h) ∙ rest-clear n (i + 1) m (omega arith) c

  -- the first that is marked is found
  rest-first : (n i d : ℕ) → d - i ≡ n → i ≤ d → d < k → ((j : ℕ) → j < d → p (line way f k j) ≡ false) → p (line way f k d) ≡ true → rest way p f k i 0 ≡ at (line way f k d)
  rest-first zero i d s g h c y = let e : i ≡ d = omega arith in rw e (scan-hit way p f k d h 0 y refl)
  rest-first (suc n) i d s g h c y = scan-miss way p f k i (omega arith) 0 (c i (omega arith)) ∙ rest-first n (i + 1) d (omega arith) (omega arith) h c y

-- the lowest line that a search comes to
abbrev lowest : Way → ℕ → ℕ
lowest Up f = f
lowest Down f = 0

-- a search from line f on, or before it, by the lines that are left
walk-rest : (way : Way) (p : ℕ → Bool) (f m : ℕ) → walk way p f m ≡ rest way p (lowest way f) (reach way f) 0 m
walk-rest Up p f m = sym (rest_all Up p f (20000 - f) m)
walk-rest Down p f m = sym (rest_all Down p 0 f m)

-- past line l, found after d lines
rest-past : (way : Way) (p : ℕ → Bool) (f d l m : ℕ) → d < reach way f → l ≡ line way (lowest way f) (reach way f) d
    → rest way p (lowest way f) (reach way f) (d + 1) m ≡ walk way p (past way l) m
rest-past Up p f d l m h e = let s : f + (d + 1) ≡ l + 1 = omega arith in let t : 20000 - f - (d + 1) ≡ 20000 - (l + 1) = omega arith in rw (s, t)
rest-past Down p f d l m h e = let s : f - (d + 1) ≡ l = omega arith in rw s

-- the number from 1 of the line that is looked at after j lines
number_line : (way : Way) (f j : ℕ) → j < reach way f → suc (line way (lowest way f) (reach way f) j) ≡ number_at way f j
number_line Up f j h = refl
number_line Down f j h = omega arith

-- searches on either side
module _ (p : ℕ → Bool) (way : Way) (f : ℕ) where
  next : (l : ℕ) → at l ≡ walk way p f 0 → Next way p (lowest way f) (reach way f) 0 l
  next l e = rest-next way p (lowest way f) (reach way f) (reach way f - 0) 0 l refl (e ∙ walk-rest way p f 0)

  -- where no line is found, none is passed over
  pub walk-left : (r m : ℕ) → left r ≡ walk way p f 0 → left m ≡ walk way p f m
  walk-left r m e = rest-left way p (lowest way f) (reach way f) (reach way f - 0) 0 r m refl (e ∙ walk-rest way p f 0) ∙ sym (walk-rest way p f m)

  -- the search goes on past the line found, with one less to be passed over
  pub walk-next : (l m : ℕ) → at l ≡ walk way p f 0 → (m ≡ 0 → ⊥) → walk way p f m ≡ walk way p (past way l) (m - 1)
  walk-next l zero e z = absurd (z refl)
  walk-next l (suc m) e z =
      let n = next l e in
      let t : m ≡ suc m - 1 = omega arith in
      walk-rest way p f (suc m) ∙ n.passed m ∙ rest-past way p f n.d l m n.below n.found ∙ ap (λ (j : ℕ). walk way p (past way l) j) t

-- a line found lies below 20,000, or below where the search begins
pub walk-below : (p : ℕ → Bool) (way : Way) (f l z : ℕ) → at l ≡ walk way p f 0 → f ≤ max 20000 z → l < max 20000 z
walk-below p Up f l z e h = let n = next p Up f l e in omega (arith, n.below, n.found)
walk-below p Down f l z e h = let n = next p Down f l e in omega (arith, n.below, n.found)

-- so does the line where the search goes on
pub walk-past : (p : ℕ → Bool) (way : Way) (f l z : ℕ) → at l ≡ walk way p f 0 → f ≤ max 20000 z → past way l ≤ max 20000 z
walk-past p Up f l z e h = omega (arith, walk-below p Up f l z e h)
walk-past p Down f l z e h = omega (arith, walk-below p Down f l z e h)

-- the nearest line that a test of numbers from 1 marks
module _ (b : ℕ → Bool) (way : Way) (f limit d : ℕ) (e : limit ≡ reach way f) (n : Nearest (λ j. b (number_at way f j)) limit d) where
  -- no line that is nearer is marked
  clear : (j : ℕ) → j < d → j < reach way f → b (suc (line way (lowest way f) (reach way f) j)) ≡ false
  clear j g h = rw (number_line way f j h) (n.nearer j g)

  -- it is the line that a search comes to
  pub walk-found : (l : ℕ) → suc l ≡ number_at way f d → d < limit → at l ≡ walk way (λ i. b (suc i)) f 0
  walk-found l s h =
      let g : d < reach way f = omega arith in
      let t : l ≡ line way (lowest way f) (reach way f) d = omega (arith, number_line way f d g) in
      let y : b (suc (line way (lowest way f) (reach way f) d)) ≡ true = rw (number_line way f d g) (n.holds h) in
      rw t (sym (walk-rest way (λ i. b (suc i)) f 0 ∙ rest-first way (λ i. b (suc i)) (lowest way f) (reach way f) (d - 0) 0 d refl (omega arith) g (λ j a. clear j a (omega arith)) y))

  -- where there is none, nothing is found
  pub walk-clear : limit ≤ d → left 0 ≡ walk way (λ i. b (suc i)) f 0
  walk-clear h =
      sym (walk-rest way (λ i. b (suc i)) f 0 ∙ rest-clear way (λ i. b (suc i)) (lowest way f) (reach way f) (reach way f - 0) 0 0 refl (λ j a. clear j (omega arith) a))
