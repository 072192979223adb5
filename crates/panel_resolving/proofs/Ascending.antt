-- The n-th of ascending lines, forwards and backwards, is found by its place. Assumes nothing.
use mathlib.Core.Path.{◌≡◌, refl, sym, ◌∙◌, ap}
use mathlib.Core.Bool.{Bool, true, false}
use Prim.Native.Nat.{ℕ, zero, suc, ◌+◌, ◌-◌, ◌≤◌, ◌<◌}
use native.Mathlib.Omega.{arith}
use Rattle.name_rules.specs.Rule.{Seek, at, left, onward, seek}
use Rattle.name_lines.specs.Marks.{back}
use Rattle.panel_resolving.specs.Listing.{Ascends}
use Rattle.panel_resolving.proofs.Counting.{Parted, Marking, passed, missed, all-below, none_below}

-- what is answered forwards from place b on, where m lines are passed over
pub record Ahead (line : ℕ → ℕ) (count b m : ℕ) (s : Seek) : Type 0 where
  pub there : b + m < count → s ≡ at (line (b + m) - 1)
  pub past : count ≤ b + m → s ≡ left (m - (count - b))

-- and backwards from before place b
pub record Behind (line : ℕ → ℕ) (b m : ℕ) (s : Seek) : Type 0 where
  pub there : m < b → s ≡ at (line (b - 1 - m) - 1)
  pub past : b ≤ m → s ≡ left (m - b)

-- the same number is left
same_left : (x : Seek) (i j : ℕ) → x ≡ left i → i ≡ j → x ≡ left j
same_left x i j e s = e ∙ ap left s

module _ (line : ℕ → ℕ) where
  -- the line at a place
  at-line : (f i j : ℕ) → line i ≡ suc f → i ≡ j → at f ≡ at (line j - 1)
  at-line f i j e s = let q : line j ≡ suc f = ap line (sym s) ∙ e in ap at (omega arith)

  -- the line at the same place
  same_line : (x : Seek) (i j : ℕ) → x ≡ at (line i - 1) → i ≡ j → x ≡ at (line j - 1)
  same_line x i j e s = e ∙ ap (λ (k : ℕ). at (line k - 1)) s

module _ (line : ℕ → ℕ) (count : ℕ) (ascends : Ascends line count) (p : ℕ → Bool) (marking : Marking line count p) (up_to : ℕ → ℕ) (parted : (n : ℕ) → Parted line count n (up_to n)) where
  -- forwards from number f on
  pub forwards : (k f m : ℕ) → 20000 ≤ f + k → Ahead line count (up_to f) m (seek p k f m)
  unfolding seek
  forwards zero f m h =
      let e : up_to f ≡ count = all-below line count ascends up_to parted f (omega arith) in
      record { there = λ g. absurd (omega arith); past = λ g. ap left (omega arith) }
  forwards (suc k) f m h = go (p f) m refl (λ j. forwards k (suc f) j (omega arith))
    where
      go : (b : Bool) (m : ℕ) → p f ≡ b → ((j : ℕ) → Ahead line count (up_to (suc f)) j (seek p k (suc f) j)) → Ahead line count (up_to f) m (onward b f m (λ j. seek p k (suc f) j))
      go false m e rec =
          let s : up_to (suc f) ≡ up_to f = missed line count ascends p marking up_to parted f e in
          rw s at (rec m)
      go true zero e rec =
          let q = passed line count ascends p marking up_to parted f e in
          record { there = λ g. at-line line f (up_to f) (up_to f + 0) q.found (omega arith); past = λ g. absurd (omega (arith, q.there)) }
      go true (suc j) e rec =
          let q = passed line count ascends p marking up_to parted f e in
          let r = rec j in
          record {
            there = λ g. same_line line _ _ _ (r.there (omega (arith, q.next))) (omega (arith, q.next));
            past = λ g. same_left _ _ _ (r.past (omega (arith, q.next))) (omega (arith, q.next, q.there));
          }

  -- backwards from before number k
  pub backwards : (k m : ℕ) → Behind line (up_to k) m (back p 0 k m)
  unfolding back
  backwards zero m =
      let e : up_to 0 ≡ 0 = none_below line count ascends up_to parted in
      record { there = λ g. absurd (omega arith); past = λ g. ap left (omega arith) }
  backwards (suc k) m = let z : 0 + k ≡ k = omega arith in rw z (go (p k) m refl (λ j. backwards k j))
    where
      go : (b : Bool) (m : ℕ) → p k ≡ b → ((j : ℕ) → Behind line (up_to k) j (back p 0 k j)) → Behind line (up_to (suc k)) m (onward b k m (λ j. back p 0 k j))
      go false m e rec =
          let s : up_to (suc k) ≡ up_to k = missed line count ascends p marking up_to parted k e in
          rw s (rec m)
      go true zero e rec =
          let q = passed line count ascends p marking up_to parted k e in
          record { there = λ g. at-line line k (up_to k) (up_to (suc k) - 1 - 0) q.found (omega (arith, q.next)); past = λ g. absurd (omega (arith, q.next)) }
      go true (suc j) e rec =
          let q = passed line count ascends p marking up_to parted k e in
          let r = rec j in
          record {
            there = λ g. same_line line _ _ _ (r.there (omega (arith, q.next))) (omega (arith, q.next));
            past = λ g. same_left _ _ _ (r.past (omega (arith, q.next))) (omega (arith, q.next));
          }
