-- Searches in a window of marks, and in one window after the other. Assumes nothing.
use mathlib.Core.Path.{◌≡◌, sym, ◌∙◌, ap}
use mathlib.Core.Bool.{Bool, false}
use mathlib.Core.List.{List}
use Prim.Native.Nat.{ℕ, ◌+◌, ◌-◌, ◌≤◌, ◌<◌}
use native.Mathlib.Omega.{arith}
use lib.ListN.{replicate}
use Rattle.name_rules.specs.Rule.{Seek, at, left, seek}
use Rattle.name_lines.specs.Marks.{marked, Adds, back}
use Rattle.name_lines.proofs.Marking.{fresh}
use Rattle.name_lines.proofs.Walk.{or_else, seek-alike, back-alike, seek_unmarked, back_unmarked, seek-split, back-split}

-- a window of n marks from low on shows the lines that were marked
module _ (n low e m : ℕ) (ms : List Bool) (p : ℕ → Bool) (f : Adds (replicate n false) ms (λ k. p (low + k))) (h : e - low ≤ n) where
  shows : (j : ℕ) → low ≤ j → j < low + (e - low) → marked ms (j - low) ≡ p j
  shows j a b = let q : low + (j - low) ≡ j = omega arith in fresh n ms (λ k. p (low + k)) f (j - low) (omega arith) ∙ ap p q

  pub window-up : seek (λ l. marked ms (l - low)) (e - low) low m ≡ seek p (e - low) low m
  window-up = seek-alike (λ l. marked ms (l - low)) p (e - low) low m shows

  pub window-down : back (λ l. marked ms (l - low)) low (e - low) m ≡ back p low (e - low) m
  window-down = back-alike (λ l. marked ms (l - low)) p low (e - low) m shows

-- lines from e on that bear no name need not be looked at
module _ (p : ℕ → Bool) (e z m : ℕ) (h : (j : ℕ) → e ≤ j → j < z → p j ≡ false) where
  pub none-up : (f : ℕ) → e ≤ f → left m ≡ seek p (z - f) f m
  none-up f g = sym (seek_unmarked p (z - f) f m (λ j a b. h j (omega arith) (omega arith)))

  pub cut_down : e ≤ z → back p 0 e m ≡ back p 0 z m
  cut_down b =
      let s : z ≡ e + (z - e) = omega arith in
      let t : back p 0 z m ≡ or_else (back p (0 + e) (z - e) m) (λ r. back p 0 e r) = ap (λ (k : ℕ). back p 0 k m) s ∙ back-split p 0 e (z - e) m in
      let q : back p (0 + e) (z - e) m ≡ left m = back_unmarked p (0 + e) (z - e) m (λ j a c. h j (omega arith) (omega arith)) in
      sym (t ∙ ap (λ (x : Seek). or_else x (λ r. back p 0 e r)) q)

-- a window from f to e, and the rest on to z
module _ (p : ℕ → Bool) (f e z m : ℕ) (h : f ≤ e) (g : e ≤ z) where
  -- the search of the window, then that of the rest
  both-up : seek p (z - f) f m ≡ or_else (seek p (e - f) f m) (λ r. seek p (z - e) e r)
  both-up =
      let s : z - f ≡ (e - f) + (z - e) = omega arith in
      let t : f + (e - f) ≡ e = omega arith in
      rw (s, seek-split p (e - f) (z - e) f m, t)

  -- what the window finds is found
  pub found_up : (l : ℕ) → at l ≡ seek p (e - f) f m → at l ≡ seek p (z - f) f m
  found_up l q = sym (both-up ∙ ap (λ (x : Seek). or_else x (λ r. seek p (z - e) e r)) (sym q))

  -- what it leaves is sought in the rest
  pub left_up : (r : ℕ) → left r ≡ seek p (e - f) f m → seek p (z - e) e r ≡ seek p (z - f) f m
  left_up r q = sym (both-up ∙ ap (λ (x : Seek). or_else x (λ i. seek p (z - e) e i)) (sym q))

-- a window from low to z, and the rest back to 0
module _ (p : ℕ → Bool) (low z m : ℕ) (h : low ≤ z) where
  -- the search of the window, then that of the rest
  both-down : back p 0 z m ≡ or_else (back p low (z - low) m) (λ r. back p 0 low r)
  both-down =
      let s : z ≡ low + (z - low) = omega arith in
      let t : 0 + low ≡ low = omega arith in
      ap (λ (k : ℕ). back p 0 k m) s ∙ back-split p 0 low (z - low) m ∙ rw t

  -- what the window finds is found
  pub found-down : (l : ℕ) → at l ≡ back p low (z - low) m → at l ≡ back p 0 z m
  found-down l q = sym (both-down ∙ ap (λ (x : Seek). or_else x (λ r. back p 0 low r)) (sym q))

  -- what it leaves is sought in the rest
  pub left_down : (r : ℕ) → left r ≡ back p low (z - low) m → back p 0 low r ≡ back p 0 z m
  left_down r q = sym (both-down ∙ ap (λ (x : Seek). or_else x (λ i. back p 0 low i)) (sym q))
