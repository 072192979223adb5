-- The place of a grid line, counted from either edge. Assumes nothing.
use mathlib.Core.Path.{◌≡◌}
use mathlib.Core.Bool.{cond}
use mathlib.Core.Logic.{⊎_elim}
use Prim.Native.Nat.{ℕ, suc, ◌+◌, ◌-◌, ◌≤◌, ◌<◌}
use native.Mathlib.Omega.{arith}
use borrow.Author.Tests.{le-leb, lt-leb, lt-ltb, le-ltb}
use lib.Dec.{leb}
use lib.IntN.{negsuc}
use Rattle.coordinates.specs.Lines.{uncut}
use Rattle.coordinates.proofs.Lines.{lt_or_ge, uncut_in, uncut_out}
use Rattle.track_counts.specs.Counts.{tracks_of}
use Rattle.track_counts.specs.declared.counts.TrackCounts.{TrackCounts}
use Rattle.placement_hits.specs.Steps.{place_in}
use Rattle.std.specs.Prelude.{Some, None}

module _ (c : TrackCounts) where
  abbrev m : ℕ
  m = c.negative_implicit

  abbrev n : ℕ
  n = c.explicit

  -- from the end edge
  pub place_before : (k : ℕ) → cond (leb k (m + n)) (Some (m + n - k)) None ≡ place_in c (uncut n (negsuc k))
  place_before k = ⊎_elim out within (lt_or_ge n k)
    where
      within : k ≤ n → cond (leb k (m + n)) (Some (m + n - k)) None ≡ place_in c (uncut n (negsuc k))
      within h = let z : m + (n - k) ≡ m + n - k = omega arith in
          rw (uncut_in n k h, le-leb k (m + n) (omega arith), le-leb (m + (n - k)) (tracks_of c) (omega arith), z)

      out : n < k → cond (leb k (m + n)) (Some (m + n - k)) None ≡ place_in c (uncut n (negsuc k))
      out h = rw (uncut_out n k h) (⊎_elim before after (lt_or_ge (m + n) k))
        where
          before : m + n < k → cond (leb k (m + n)) (Some (m + n - k)) None ≡ place_in c (negsuc (k - suc n))
          before b = rw (lt-leb k (m + n) b, le-ltb (k - suc n) m (omega arith))

          after : k ≤ m + n → cond (leb k (m + n)) (Some (m + n - k)) None ≡ place_in c (negsuc (k - suc n))
          after b = let z : m - suc (k - suc n) ≡ m + n - k = omega arith in
              rw (le-leb k (m + n) b, lt-ltb (k - suc n) m (omega arith), z)
