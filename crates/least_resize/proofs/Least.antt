-- What the search finds is the least resize, and there is one only. Assumes nothing.
use Rattle.std.specs.Prelude.{Option, Some, None}
use Prim.Native.Nat.{ℕ, zero, suc, ◌+◌, ◌-◌, ◌≤◌, ◌<◌}
use mathlib.Core.Path.{◌≡◌, refl, sym, ap}
use mathlib.Core.Logic.{◌⊎◌, inl, inr, ⊎_elim}
use mathlib.Core.Bool.{Bool, true, false, cond, not, ◌&&◌}
use native.Mathlib.Omega.{arith}
use borrow.Author.Tests.{le-leb, leb-true, ltb-true, ltb-false, eqb-true, eqb-false}
use lib.Dec.{eqb, leb, ltb}
use Rattle.least_resize.specs.Resize.{largest_size, apart, Before, Least, LeastResize}
use Rattle.least_resize.specs.Search.{differs_from, at_distance, or_else, search_from, least_resize}

-- ---- what a test says
module _ (count : ℕ → ℕ) (n t : ℕ) where
  told : differs_from count n t ≡ true → (t ≤ largest_size) × (count t ≡ n → ⊥)
  told e = go (leb t largest_size) refl (eqb (count t) n) refl e
    where
      go : (b : Bool) → leb t largest_size ≡ b → (c : Bool) → eqb (count t) n ≡ c → (b && not c) ≡ true → (t ≤ largest_size) × (count t ≡ n → ⊥)
      go true h false k x = (leb-true t largest_size h, eqb-false (count t) n k)
      go true h true k x = absurd (never x)
        where
          never : false ≡ true → ⊥
          never z = let o : ◌≡◌ {A = ℕ} 0 1 = cc in omega arith
      go false h c k x = absurd (never x)
        where
          never : false ≡ true → ⊥
          never z = let o : ◌≡◌ {A = ℕ} 0 1 = cc in omega arith

  equal : differs_from count n t ≡ false → t ≤ largest_size → count t ≡ n
  equal e h = go (eqb (count t) n) refl (rw (le-leb t largest_size h) at e)
    where
      go : (c : Bool) → eqb (count t) n ≡ c → not c ≡ false → count t ≡ n
      go true k x = eqb-true (count t) n k
      go false k x = absurd (never x)
        where
          never : true ≡ false → ⊥
          never z = let o : ◌≡◌ {A = ℕ} 0 1 = cc in omega arith

-- ---- the search
module _ (count : ℕ → ℕ) (size : ℕ) (small : size ≤ 65535) where
  abbrev differs : ℕ → Bool
  differs = differs_from count (count size)

  -- every size closer than d has the count of now
  abbrev Passed : ℕ → Type 0
  Passed d = (t : ℕ) → t ≤ 65535 → apart size t < d → count t ≡ count size

  wider-least : (d : ℕ) → Passed d → differs (size + d) ≡ true → Least count size (size + d)
  wider-least d p e =
      let w = told count (count size) (size + d) e in
      record { within = w.0; differs = w.1; closer = λ t h b. ⊎_elim (λ (l : apart size t < apart size (size + d)). p t h (near size t d l)) (λ (l : (apart size t ≡ apart size (size + d)) × (size + d < t)). absurd (far size t d l.0 l.1)) b }
    where
      near : (s t d : ℕ) → apart s t < apart s (s + d) → apart s t < d
      near s t d l = omega arith

      far : (s t d : ℕ) → apart s t ≡ apart s (s + d) → s + d < t → ⊥
      far s t d e l = omega arith

  narrower-least : (d : ℕ) → 1 ≤ d → d ≤ size → Passed d → differs (size + d) ≡ false → differs (size - d) ≡ true → Least count size (size - d)
  narrower-least d o l p f e =
      let w = told count (count size) (size - d) e in
      record { within = w.0; differs = w.1; closer = λ t h b. ⊎_elim (λ (k : apart size t < apart size (size - d)). p t h (near size t d l k)) (λ (k : (apart size t ≡ apart size (size - d)) × (size - d < t)). other t h (only size t d l k.0 k.1)) b }
    where
      near : (s t d : ℕ) → d ≤ s → apart s t < apart s (s - d) → apart s t < d
      near s t d h l = omega arith

      only : (s t d : ℕ) → d ≤ s → apart s t ≡ apart s (s - d) → s - d < t → s + d ≡ t
      only s t d h e l = omega arith

      other : (t : ℕ) → t ≤ 65535 → size + d ≡ t → count t ≡ count size
      other t h q = equal count (count size) t (rw (← q) f) h

  -- one distance more
  no-narrower : (d : ℕ) → Passed d → size < d → differs (size + d) ≡ false → Passed (d + 1)
  no-narrower d p l f t h b = ⊎_elim (λ (k : apart size t < d). p t h k) (λ (q : size + d ≡ t). equal count (count size) t (rw (← q) f) h) (split size t d l b)
    where
      split : (s t d : ℕ) → s < d → apart s t < d + 1 → (apart s t < d) ⊎ (s + d ≡ t)
      split s t d l b = go (ltb (apart s t) d) refl
        where
          go : (x : Bool) → ltb (apart s t) d ≡ x → (apart s t < d) ⊎ (s + d ≡ t)
          go true e = inl (ltb-true (apart s t) d e)
          go false e = let z = ltb-false (apart s t) d e in inr (omega arith)

  neither : (d : ℕ) → Passed d → d ≤ size → differs (size + d) ≡ false → differs (size - d) ≡ false → Passed (d + 1)
  neither d p l f g t h b =
      ⊎_elim (λ (k : apart size t < d). p t h k)
      (⊎_elim (λ (q : size + d ≡ t). equal count (count size) t (rw (← q) f) h) (λ (q : size - d ≡ t). equal count (count size) t (rw (← q) g) h))
      (split size t d l b)
    where
      side : (s t d : ℕ) → d ≤ s → d ≤ apart s t → apart s t < d + 1 → (s + d ≡ t) ⊎ (s - d ≡ t)
      side s t d l a b = go (ltb s t) refl
        where
          go : (x : Bool) → ltb s t ≡ x → (s + d ≡ t) ⊎ (s - d ≡ t)
          go true e = let z = ltb-true s t e in inl (omega arith)
          go false e = let z = ltb-false s t e in inr (omega arith)

      split : (s t d : ℕ) → d ≤ s → apart s t < d + 1 → (apart s t < d) ⊎ ((s + d ≡ t) ⊎ (s - d ≡ t))
      split s t d l b = go (ltb (apart s t) d) refl
        where
          go : (x : Bool) → ltb (apart s t) d ≡ x → (apart s t < d) ⊎ ((s + d ≡ t) ⊎ (s - d ≡ t))
          go true e = inl (ltb-true (apart s t) d e)
          go false e = inr (side s t d l (ltb-false (apart s t) d e) b)

  search-from : (k d : ℕ) → 1 ≤ d → d + k ≡ 65536 → Passed d → LeastResize count size (search_from differs size d k)
  unfolding search_from at_distance
  search-from zero d o e p = λ t h. p t h (all size t d small h e)
    where
      all : (s t d : ℕ) → s ≤ 65535 → t ≤ 65535 → d + 0 ≡ 65536 → apart s t < d
      all s t d a b e = omega arith
  search-from (suc k) d o e p = go (λ q. search-from k (d + 1) (omega arith) (omega arith) q) (differs (size + d)) refl
    where
      next : Option ℕ
      next = search_from differs size (d + 1) k

      narrow : (Passed (d + 1) → LeastResize count size next) → differs (size + d) ≡ false → d ≤ size → (b : Bool) → differs (size - d) ≡ b
          → LeastResize count size (or_else (cond b (Some (size - d)) None) next)
      narrow rest f l true g = narrower-least d o l p f g
      narrow rest f l false g = rest (neither d p l f g)

      short : (Passed (d + 1) → LeastResize count size next) → differs (size + d) ≡ false → (b : Bool) → ltb size d ≡ b
          → LeastResize count size (or_else (cond b None (cond (differs (size - d)) (Some (size - d)) None)) next)
      short rest f true g = rest (no-narrower d p (ltb-true size d g) f)
      short rest f false g = narrow rest f (ltb-false size d g) (differs (size - d)) refl

      go : (Passed (d + 1) → LeastResize count size next) → (b : Bool) → differs (size + d) ≡ b
          → LeastResize count size (or_else (cond b (Some (size + d)) (cond (ltb size d) None (cond (differs (size - d)) (Some (size - d)) None))) next)
      go rest true f = wider-least d p f
      go rest false f = short rest f (ltb size d) refl

  pub search-least : LeastResize count size (least_resize count size)
  unfolding least_resize
  search-least = search-from 65535 1 (omega arith) refl (λ t h b. ap count (same size t b))
    where
      same : (s t : ℕ) → apart s t < 1 → t ≡ s
      same s t b = omega arith

-- ---- and there is one only
module _ (count : ℕ → ℕ) (size : ℕ) where
  ordered : (s t : ℕ) → Least count size s → Least count size t → s ≡ t
  ordered s t x y = pick (ltb (apart size s) (apart size t)) refl (ltb (apart size t) (apart size s)) refl
    where
      -- neither comes before the other
      first : Before size s t → ⊥
      first b = x.differs (y.closer s x.within b)

      second : Before size t s → ⊥
      second b = y.differs (x.closer t y.within b)

      level : (a : Bool) → ltb t s ≡ a → (b : Bool) → ltb s t ≡ b → apart size s ≡ apart size t → s ≡ t
      level true f b g e = absurd (first (inr (e, ltb-true t s f)))
      level false f true g e = absurd (second (inr (sym e, ltb-true s t g)))
      level false f false g e = let k = ltb-false t s f in let l = ltb-false s t g in omega arith

      pick : (a : Bool) → ltb (apart size s) (apart size t) ≡ a → (b : Bool) → ltb (apart size t) (apart size s) ≡ b → s ≡ t
      pick true e b f = absurd (first (inl (ltb-true (apart size s) (apart size t) e)))
      pick false e true f = absurd (second (inl (ltb-true (apart size t) (apart size s) f)))
      pick false e false f = level (ltb t s) refl (ltb s t) refl (meet (apart size s) (apart size t) (ltb-false (apart size s) (apart size t) e) (ltb-false (apart size t) (apart size s) f))
        where
          meet : (a b : ℕ) → b ≤ a → a ≤ b → a ≡ b
          meet a b h g = omega arith

  pub least-unique : (r q : Option ℕ) → LeastResize count size r → LeastResize count size q → r ≡ q
  least-unique (Some s) (Some t) x y = ap Some (ordered s t x y)
  least-unique (Some s) None x y = absurd (x.differs (y s x.within))
  least-unique None (Some t) x y = absurd (y.differs (x t y.within))
  least-unique None None x y = refl
