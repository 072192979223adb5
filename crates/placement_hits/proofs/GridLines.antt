-- Lines on the grid and their places: one place for each, in the same order. Assumes nothing.
use mathlib.Core.Path.{◌≡◌, refl, sym, ap, ◌∙◌}
use mathlib.Core.Bool.{Bool, true, false, cond}
use mathlib.Core.Logic.{⊎_elim}
use Prim.Native.Nat.{ℕ, zero, suc, ◌+◌, ◌-◌, ◌≤◌, ◌<◌}
use native.Mathlib.Omega.{arith}
use borrow.Author.Tests.{le-leb, lt-ltb, leb-true, ltb-true}
use lib.Dec.{leb, ltb, lt→ltb, ltb→lt}
use lib.IntN.{ℤ, pos, negsuc, ◌+ℤ◌}
use lib.Signed.{◌<ℤ◌}
use Rattle.coordinates.specs.Lines.{uncut}
use Rattle.coordinates.proofs.Integers.{plus_before, plus_past}
use Rattle.coordinates.proofs.Lines.{lt_or_ge}
use Rattle.track_counts.specs.Counts.{tracks_of}
use Rattle.track_counts.specs.declared.counts.TrackCounts.{TrackCounts}
use Rattle.placement_hits.specs.Hits.{AtPlace}
use Rattle.placement_hits.specs.Steps.{place_in, place_of}
use Rattle.std.specs.Prelude.{Some, None}

module _ (c : TrackCounts) where
  abbrev m : ℕ
  m = c.negative_implicit

  -- ---- a place by the sign of its line

  pub place_after : (a k : ℕ) → AtPlace c (pos a) k → k ≡ a + m
  place_after a k p = let e : pos k ≡ pos (a + m) = p.place in cc

  pub place-ahead : (a k : ℕ) → AtPlace c (negsuc a) k → k + suc a ≡ m
  place-ahead a k p =
      ⊎_elim
      (λ (h : a < m). let e : k ≡ m - a - 1 = cc (p.place, plus_past a m h) in omega arith)
      (λ (h : m ≤ a). absurd (let e : pos k ≡ negsuc (a - m) = p.place ∙ sym (plus_before a m h) in let z : ◌≡◌ {A = ℕ} 0 1 = cc in omega arith))
      (lt_or_ge a m)

  pub after-place : (a k : ℕ) → k ≡ a + m → k ≤ tracks_of c → AtPlace c (pos a) k
  after-place a k e h = record { place = ap pos e; on = h }

  pub ahead-place : (a k : ℕ) → k + suc a ≡ m → AtPlace c (negsuc a) k
  ahead-place a k e = record { place = ap pos (omega arith) ∙ plus_past a m (omega arith); on = omega arith }

  -- a line has one place
  pub one_place : {l : ℤ} {j k : ℕ} → AtPlace c l j → AtPlace c l k → j ≡ k
  one_place {l} {j} {k} p q = let e : pos j ≡ pos k = p.place ∙ sym q.place in cc

  -- ---- the place that is found

  found_after : (a k : ℕ) (t : Bool) → leb (m + a) (tracks_of c) ≡ t → cond t (Some (m + a)) None ≡ Some k → AtPlace c (pos a) k
  found_after a k true e q = let z : m + a ≡ k = cc in after-place a k (omega arith) (rw z at (leb-true (m + a) (tracks_of c) e))
  found_after a k false e q = absurd (let z : ◌≡◌ {A = ℕ} 0 1 = cc in omega arith)

  found-ahead : (a k : ℕ) (t : Bool) → ltb a m ≡ t → cond t (Some (m - suc a)) None ≡ Some k → AtPlace c (negsuc a) k
  found-ahead a k true e q = let z : m - suc a ≡ k = cc in let h : a < m = ltb-true a m e in ahead-place a k (omega arith)
  found-ahead a k false e q = absurd (let z : ◌≡◌ {A = ℕ} 0 1 = cc in omega arith)

  pub found-place : (l : ℤ) (k : ℕ) → place_in c l ≡ Some k → AtPlace c l k
  found-place (pos a) k q = found_after a k (leb (m + a) (tracks_of c)) refl q
  found-place (negsuc a) k q = found-ahead a k (ltb a m) refl q

  pub place_found : (l : ℤ) (k : ℕ) → AtPlace c l k → place_in c l ≡ Some k
  place_found (pos a) k p =
      let e : m + a ≡ k = omega (arith, place_after a k p) in let h : k ≤ tracks_of c = p.on in rw (e, le-leb k (tracks_of c) h)
  place_found (negsuc a) k p = let e : k + suc a ≡ m = place-ahead a k p in rw (lt-ltb a m (omega arith)) (ap Some (omega arith))

  -- a grid line that is not 0
  pub line-not-0 : (g : ℤ) → (g ≡ pos 0 → ⊥) → place_of c g ≡ place_in c (uncut c.explicit g)
  unfolding place_of
  line-not-0 (pos zero) h = absurd (h refl)
  line-not-0 (pos (suc g)) h = refl
  line-not-0 (negsuc g) h = refl

  pub placed-not-0 : (g : ℤ) (k : ℕ) → place_of c g ≡ Some k → g ≡ pos 0 → ⊥
  unfolding place_of
  placed-not-0 (pos zero) k q e = let z : ◌≡◌ {A = ℕ} 0 1 = cc in omega arith
  placed-not-0 (pos (suc g)) k q e = let z : suc g ≡ 0 = cc in omega arith
  placed-not-0 (negsuc g) k q e = let z : ◌≡◌ {A = ℕ} 0 1 = cc in omega arith

  -- ---- order

  pub places-ordered : (a b : ℤ) (j k : ℕ) → AtPlace c a j → AtPlace c b k → a <ℤ b → j < k
  places-ordered (pos a) (pos b) j k p q h = omega (arith, place_after a j p, place_after b k q, ltb→lt a b h.lt)
  places-ordered (pos a) (negsuc b) j k p q h = absurd h.lt
  places-ordered (negsuc a) (pos b) j k p q h = omega (arith, place-ahead a j p, place_after b k q)
  places-ordered (negsuc a) (negsuc b) j k p q h = omega (arith, place-ahead a j p, place-ahead b k q, ltb→lt b a h.lt)

  pub lines-ordered : (a b : ℤ) (j k : ℕ) → AtPlace c a j → AtPlace c b k → j < k → a <ℤ b
  lines-ordered (pos a) (pos b) j k p q h = record { lt = lt→ltb a b (omega (arith, place_after a j p, place_after b k q)) }
  lines-ordered (pos a) (negsuc b) j k p q h = absurd (omega (arith, place_after a j p, place-ahead b k q))
  lines-ordered (negsuc a) (pos b) j k p q h = record { lt = tt }
  lines-ordered (negsuc a) (negsuc b) j k p q h = record { lt = lt→ltb b a (omega (arith, place-ahead a j p, place-ahead b k q)) }

  pub lines_same : (a b : ℤ) (j : ℕ) → AtPlace c a j → AtPlace c b j → a ≡ b
  lines_same (pos a) (pos b) j p q = ap pos (omega (arith, place_after a j p, place_after b j q))
  lines_same (pos a) (negsuc b) j p q = absurd (omega (arith, place_after a j p, place-ahead b j q))
  lines_same (negsuc a) (pos b) j p q = absurd (omega (arith, place-ahead a j p, place_after b j q))
  lines_same (negsuc a) (negsuc b) j p q = ap negsuc (omega (arith, place-ahead a j p, place-ahead b j q))

  -- the line after a line
  pub next_place : (l : ℤ) (k : ℕ) → AtPlace c l k → k < tracks_of c → AtPlace c (l +ℤ pos 1) (k + 1)
  next_place (pos a) k p h = after-place (a + 1) (k + 1) (omega (arith, place_after a k p)) (omega arith)
  next_place (negsuc zero) k p h = after-place 0 (k + 1) (omega (arith, place-ahead 0 k p)) (omega arith)
  next_place (negsuc (suc a)) k p h = rw (← plus_before (suc a) 1 (omega arith)) (ahead-place (suc a - 1) (k + 1) (omega (arith, place-ahead (suc a) k p)))

  -- a line between two lines of the grid is on it
  pub between-place : (low l high : ℤ) (j k : ℕ) → AtPlace c low j → AtPlace c high k → low <ℤ l → l <ℤ high → (i : ℕ) × AtPlace c l i
  between-place low (pos a) (pos b) j k p q g h =
      (a + m, after-place a (a + m) refl (omega (arith, place_after b k q, ltb→lt a b h.lt, q.on)))
  between-place low (pos a) (negsuc b) j k p q g h = absurd h.lt
  between-place (pos a) (negsuc b) high j k p q g h = absurd g.lt
  between-place (negsuc a) (negsuc b) high j k p q g h =
      let e : j + suc a ≡ m = place-ahead a j p in let f : b < a = ltb→lt b a g.lt in (m - suc b, ahead-place b (m - suc b) (omega arith))
