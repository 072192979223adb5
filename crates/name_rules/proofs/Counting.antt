-- The n-th number at which a predicate holds: there is at most one, it depends on the predicate alone, and `seek` finds it.
-- Assumes nothing.
use mathlib.Core.Path.{◌≡◌, refl}
use mathlib.Core.Logic.{⊎_elim}
use mathlib.Core.Bool.{Bool, true, false}
use Prim.Native.Nat.{ℕ, zero, suc, ◌+◌, ◌-◌, ◌≤◌, ◌<◌, max}
use native.Mathlib.Nat.{le_refl, add-zero, add-suc, suc-add}
use native.Mathlib.Omega.{arith}
use lib.Dec.{T}
use Rattle.coordinates.proofs.Lines.{lt_or_ge}
use Rattle.name_rules.specs.Css.{Nearest, Nth}
use Rattle.name_rules.specs.Rule.{at, left, onward, seek, settle}

nearest_le : (B : ℕ → Type 0) (f l m : ℕ) → Nearest B f l → Nearest B f m → l ≤ m
nearest_le B f l m p q = ⊎_elim (λ (h : m < l). absurd (p.none m q.reached h q.holds)) (λ (h : l ≤ m). h) (lt_or_ge m l)

pub nearest_unique : (B : ℕ → Type 0) (f l m : ℕ) → Nearest B f l → Nearest B f m → l ≡ m
nearest_unique B f l m p q = omega (arith, nearest_le B f l m p q, nearest_le B f m l q p)

pub nth_unique : (B : ℕ → Type 0) (n f l m : ℕ) → Nth B f n l → Nth B f n m → l ≡ m
nth_unique B zero f l m p q = absurd p
nth_unique B (suc zero) f l m p q = nearest_unique B f l m p q
nth_unique B (suc (suc n)) f l m (a, pa, p) (b, qb, q) =
    nth_unique B (suc n) (suc b) l m (rw (nearest_unique B f a b pa qb) at p) q

-- the n-th number depends only on where the predicate holds
pub nearest_same : (B C : ℕ → Type 0) → ((k : ℕ) → B k → C k) → ((k : ℕ) → C k → B k) → (f l : ℕ) → Nearest B f l → Nearest C f l
nearest_same B C to back f l p =
    record { reached = p.reached; holds = to l p.holds; none = λ k h g c. p.none k h g (back k c) }

pub nth_same : (B C : ℕ → Type 0) → ((k : ℕ) → B k → C k) → ((k : ℕ) → C k → B k) → (n f l : ℕ) → Nth B f n l → Nth C f n l
nth_same B C to back zero f l p = p
nth_same B C to back (suc zero) f l p = nearest_same B C to back f l p
nth_same B C to back (suc (suc n)) f l (m, q, p) = (m, nearest_same B C to back f m q, nth_same B C to back (suc n) (suc m) l p)

-- what does not hold at f may be passed over
nearest_skip : (B : ℕ → Type 0) (f l : ℕ) → (B f → ⊥) → Nearest B (suc f) l → Nearest B f l
nearest_skip B f l out p =
    record {
      reached = omega (arith, p.reached);
      holds = p.holds;
      none = λ k h g b. ⊎_elim (λ (e : f < k). p.none k e g b) (λ (e : k ≤ f). out (rw (at_f k h e) at b)) (lt_or_ge f k);
    }
  where
    at_f : (k : ℕ) → f ≤ k → k ≤ f → k ≡ f
    at_f k a b = omega arith

nth_skip : (B : ℕ → Type 0) (n f l : ℕ) → (B f → ⊥) → Nth B (suc f) n l → Nth B f n l
nth_skip B zero f l out p = p
nth_skip B (suc zero) f l out p = nearest_skip B f l out p
nth_skip B (suc (suc n)) f l out (m, q, p) = (m, nearest_skip B f m out q, p)

nearest_here : (B : ℕ → Type 0) (f : ℕ) → B f → Nearest B f f
nearest_here B f b = record { reached = omega arith; holds = b; none = λ k h g c. omega arith }

-- where it holds at every number from f on
pub nth_all : (B : ℕ → Type 0) (f m : ℕ) → ((k : ℕ) → f ≤ k → B k) → Nth B f (suc m) (f + m)
nth_all B f zero all = rw (add-zero f) (nearest_here B f (all f (le_refl f)))
nth_all B f (suc m) all = (f, nearest_here B f (all f (le_refl f)), rw (add-suc f m) (rw (← (suc-add f m)) (nth_all B (suc f) m (λ k h. all k (omega arith)))))

-- seek finds it: p says where B holds below g, B holds at every number from g on, and p marks none there that is sought
module _ (B : ℕ → Type 0) (p : ℕ → Bool) (g z : ℕ) (to : (k : ℕ) → k < g → T (p k) → B k) (back : (k : ℕ) → k < g → B k → T (p k))
    (on : (k : ℕ) → g ≤ k → B k) (past : (k : ℕ) → g ≤ k → k < z → T (p k) → ⊥) where
  beyond : (k f m : ℕ) → g ≤ f → f + k ≤ z → seek p k f m ≡ left m
  unfolding seek
  beyond zero f m h b = refl
  beyond (suc k) f m h b = go (p f) (past f h (omega arith)) (beyond k (suc f) m (omega arith) (omega arith))
    where
      go : (b : Bool) → (T b → ⊥) → seek p k (suc f) m ≡ left m → onward b f m (λ j. seek p k (suc f) j) ≡ left m
      go true out r = absurd (out tt)
      go false out r = r

  pub after : (k f m : ℕ) → g ≤ f → f + k ≤ z → Nth B f (suc m) (settle f (seek p k f m))
  after k f m h b = rw (beyond k f m h b) (nth_all B f m (λ j e. on j (omega arith)))

  pub within : (k f m : ℕ) → f ≤ g → g ≤ f + k → f + k ≤ z → Nth B f (suc m) (settle g (seek p k f m))
  unfolding seek
  within zero f m h e b = let same : f ≡ g = omega arith in rw (← same) (nth_all B f m (λ j d. on j (omega arith)))
  within (suc k) f m h e b =
      ⊎_elim
      (λ (d : f < g). go m (p f) (to f d) (back f d) (λ j. within k (suc f) j d (omega arith) (omega arith)))
      (λ (d : g ≤ f). let same : f ≡ g = omega arith in rw (beyond (suc k) f m d b) (rw (← same) (nth_all B f m (λ j r. on j (omega arith)))))
      (lt_or_ge f g)
    where
      go : (m : ℕ) (b : Bool) → (T b → B f) → (B f → T b) → ((j : ℕ) → Nth B (suc f) (suc j) (settle g (seek p k (suc f) j)))
          → Nth B f (suc m) (settle g (onward b f m (λ j. seek p k (suc f) j)))
      go m false yea nay rec = nth_skip B (suc m) f _ nay (rec m)
      go zero true yea nay rec = nearest_here B f (yea tt)
      go (suc j) true yea nay rec = (f, nearest_here B f (yea tt), rec j)

  -- both at once: counting goes on at g, or at f where f lies beyond it
  pub seek-nth : (k f m : ℕ) → g ≤ f + k → f + k ≤ z → Nth B f (suc m) (settle (max f g) (seek p k f m))
  seek-nth k f m e b =
      ⊎_elim
      (λ (d : f < g). let same : max f g ≡ g = omega arith in rw same (within k f m (omega arith) e b))
      (λ (d : g ≤ f). let same : max f g ≡ f = omega arith in rw same (after k f m d b))
      (lt_or_ge f g)

-- a predicate moved up by a
module _ (B C : ℕ → Type 0) (a : ℕ) (to : (k : ℕ) → B k → C (a + k)) (back : (k : ℕ) → C (a + k) → B k) where
  nearest-lift : (f l : ℕ) → Nearest B f l → Nearest C (a + f) (a + l)
  nearest-lift f l p =
      record {
        reached = omega (arith, p.reached);
        holds = to l p.holds;
        none = λ k h g c. let e : k ≡ a + (k - a) = omega arith in p.none (k - a) (omega arith) (omega arith) (back (k - a) (rw e at c));
      }

  pub nth-lift : (n f l : ℕ) → Nth B f n l → Nth C (a + f) n (a + l)
  nth-lift zero f l p = p
  nth-lift (suc zero) f l p = nearest-lift f l p
  nth-lift (suc (suc n)) f l (m, q, p) = (a + m, nearest-lift f m q, rw (add-suc a m) at (nth-lift (suc n) (suc m) l p))

  nearest-lower : (f l : ℕ) → Nearest C (a + f) l → Nearest B f (l - a)
  nearest-lower f l p =
      let e : l ≡ a + (l - a) = omega (arith, p.reached) in
      record {
        reached = omega (arith, p.reached);
        holds = back (l - a) (rw e at p.holds);
        none = λ k h g b. p.none (a + k) (omega arith) (omega arith) (to k b);
      }

  pub nth-lower : (n f l : ℕ) → Nth C (a + f) n l → Nth B f n (l - a)
  nth-lower zero f l p = p
  nth-lower (suc zero) f l p = nearest-lower f l p
  nth-lower (suc (suc n)) f l (m, q, p) =
      let e : suc m ≡ a + suc (m - a) = omega (arith, q.reached) in
      (m - a, nearest-lower f m q, nth-lower (suc n) (suc (m - a)) l (rw e at p))

-- where none holds from f up to f + d, counting may begin at f
pub nth_from : (B : ℕ → Type 0) (n d f l : ℕ) → ((k : ℕ) → f ≤ k → k < f + d → B k → ⊥) → Nth B (f + d) n l → Nth B f n l
nth_from B n zero f l out p = rw (add-zero f) at p
nth_from B n (suc d) f l out p =
    nth_skip B n f l (out f (le_refl f) (omega arith))
    (nth_from B n d (suc f) l (λ k h g b. out k (omega arith) (omega arith) b) (rw (same) at p))
  where
    same : f + suc d ≡ suc f + d
    same = omega arith

pub nth_reached : (B : ℕ → Type 0) (n f l : ℕ) → Nth B f n l → f ≤ l
nth_reached B zero f l p = absurd p
nth_reached B (suc zero) f l p = p.reached
nth_reached B (suc (suc n)) f l (m, q, p) = omega (arith, q.reached, nth_reached B (suc n) (suc m) l p)

-- a found number is one of those sought
pub seek-below : (p : ℕ → Bool) (k f m l : ℕ) → seek p k f m ≡ at l → l < f + k
unfolding seek
seek-below p zero f m l e = let z : ◌≡◌ {A = ℕ} 0 1 = cc in omega arith
seek-below p (suc k) f m l e = go (p f) m (λ j r. seek-below p k (suc f) j l r) e
  where
    go : (b : Bool) (m : ℕ) → ((j : ℕ) → seek p k (suc f) j ≡ at l → l < suc f + k) → onward b f m (λ j. seek p k (suc f) j) ≡ at l → l < f + suc k
    go false m rec r = omega (arith, rec m r)
    go true zero rec r = let z : f ≡ l = cc in omega arith
    go true (suc j) rec r = omega (arith, rec j r)

-- the first: found, or none among those sought
pub seek_first : (p : ℕ → Bool) (k f l : ℕ) → seek p k f 0 ≡ at l → Nearest (λ j. T (p j)) f l
unfolding seek
seek_first p zero f l e = let z : ◌≡◌ {A = ℕ} 0 1 = cc in absurd (omega arith)
seek_first p (suc k) f l e = go (p f) refl (λ r. seek_first p k (suc f) l r) e
  where
    go : (b : Bool) → p f ≡ b → (seek p k (suc f) 0 ≡ at l → Nearest (λ j. T (p j)) (suc f) l) → onward b f 0 (λ j. seek p k (suc f) j) ≡ at l
        → Nearest (λ j. T (p j)) f l
    go false q rec r = nearest_skip (λ j. T (p j)) f l (λ t. rw q at t) (rec r)
    go true q rec r = let z : f ≡ l = cc in rw (← z) (nearest_here (λ j. T (p j)) f (rw q tt))

pub seek-none : (p : ℕ → Bool) (k f r : ℕ) → seek p k f 0 ≡ left r → (j : ℕ) → f ≤ j → j < f + k → T (p j) → ⊥
unfolding seek
seek-none p zero f r e j h g t = omega arith
seek-none p (suc k) f r e j h g t = go (p f) refl (λ q a. seek-none p k (suc f) r q j a (omega arith) t) e
  where
    go : (b : Bool) → p f ≡ b → (seek p k (suc f) 0 ≡ left r → suc f ≤ j → ⊥) → onward b f 0 (λ j. seek p k (suc f) j) ≡ left r → ⊥
    go false q rec c =
        ⊎_elim (λ (a : f < j). rec c a)
        (λ (a : j ≤ f). let same : j ≡ f = omega arith in let u : T (p f) = rw same at t in (rw q at u)) (lt_or_ge f j)
    go true q rec c = let z : ◌≡◌ {A = ℕ} 0 1 = cc in omega arith
