-- Searches over a range of lines: line after line, and window after window. Assumes nothing.
use mathlib.Core.Path.{◌≡◌, refl, sym, ◌∙◌, ap}
use mathlib.Core.Bool.{Bool, true, false}
use mathlib.Core.List.{List}
use Prim.Native.Nat.{ℕ, zero, suc, ◌+◌, ◌-◌, ◌≤◌, ◌<◌, min, max}
use native.Mathlib.Omega.{arith}
use lib.ListN.{replicate}
use Rattle.name_rules.specs.Rule.{Seek, at, left, onward, seek}
use Rattle.name_lines.specs.Marks.{marked, Adds, back, walk}
use Rattle.name_lines.specs.declared.Way.{Way}
use Rattle.name_lines.specs.declared.Way.TheVariants.{Up, Down}
use Rattle.name_lines.proofs.Walk.{or_else, seek_unmarked, seek-split, back-split}
use Rattle.name_lines.proofs.Windows.{window-up, window-down, cut_down}
use Rattle.name_search.specs.Scans.{scan, place_at, lines_sought, window_length, next_window, lines_left}
use Rattle.name_search.specs.declared.window.Window.{Window}

-- where the lines begin that are left after i of those from line f on
abbrev pub rest_from : Way → ℕ → ℕ → ℕ
rest_from Up f i = f + i
rest_from Down f i = f

-- at first all lines are left
pub rest_all : (way : Way) (p : ℕ → Bool) (f k m : ℕ) → scan way p (rest_from way f 0) (k - 0) m ≡ scan way p f k m
rest_all Up p f k m = let s : f + 0 ≡ f = omega arith in let t : k - 0 ≡ k = omega arith in rw (s, t)
rest_all Down p f k m = let t : k - 0 ≡ k = omega arith in rw t

-- where no line is left, nothing is found
pub scan-end : (way : Way) (p : ℕ → Bool) (f k m : ℕ) → k ≡ 0 → left m ≡ scan way p f k m
unfolding seek back
scan-end Up p f k m e = rw e
scan-end Down p f k m e = rw e

-- the next line among k from line f on, after i of them
pub scan_step : (way : Way) (p : ℕ → Bool) (f k i m : ℕ) → i < k
    → scan way p (rest_from way f i) (k - i) m ≡ onward (p (f + place_at way k i)) (f + place_at way k i) m (λ j. scan way p (rest_from way f (i + 1)) (k - (i + 1)) j)
unfolding seek back
scan_step Up p f k i m h = let s : k - i ≡ suc (k - (i + 1)) = omega arith in let t : f + (i + 1) ≡ suc (f + i) = omega arith in rw (s, t)
scan_step Down p f k i m h = let s : k - i ≡ suc (k - (i + 1)) = omega arith in let t : k - 1 - i ≡ k - (i + 1) = omega arith in rw (s, t)

module _ (way : Way) (p : ℕ → Bool) (f k i : ℕ) (h : i < k) where
  -- it is not marked
  pub scan-miss : (m : ℕ) → p (f + place_at way k i) ≡ false → scan way p (rest_from way f i) (k - i) m ≡ scan way p (rest_from way f (i + 1)) (k - (i + 1)) m
  scan-miss m q = scan_step way p f k i m h ∙ rw q

  -- it is the line sought
  pub scan-hit : (m : ℕ) → p (f + place_at way k i) ≡ true → m ≡ 0 → scan way p (rest_from way f i) (k - i) m ≡ at (f + place_at way k i)
  scan-hit m q z = rw z (scan_step way p f k i 0 h ∙ rw q)

  -- it is passed over
  pub scan-over : (m : ℕ) → p (f + place_at way k i) ≡ true → (m ≡ 0 → ⊥) → scan way p (rest_from way f i) (k - i) m ≡ scan way p (rest_from way f (i + 1)) (k - (i + 1)) (m - 1)
  scan-over zero q z = absurd (z refl)
  scan-over (suc n) q z = let s : n ≡ suc n - 1 = omega arith in scan_step way p f k i (suc n) h ∙ rw q (ap (λ (j : ℕ). scan way p (rest_from way f (i + 1)) (k - (i + 1)) j) s)

-- a window of n marks from line low on shows the lines that were marked
pub scan-marked : (way : Way) (n low e m : ℕ) (ms : List Bool) (p : ℕ → Bool) → Adds (replicate n false) ms (λ k. p (low + k)) → e - low ≤ n
    → scan way (λ l. marked ms (l - low)) low (e - low) m ≡ scan way p low (e - low) m
scan-marked Up n low e m ms p f h = window-up n low e m ms p f h
scan-marked Down n low e m ms p f h = window-down n low e m ms p f h

-- the lines of a range
abbrev pub scan_in : Way → (ℕ → Bool) → Window → ℕ → Seek
scan_in way p w m = scan way p w.low (w.end - w.low) m

-- lines past line h, where none has a name, need not be looked at
pub scan_sought : (way : Way) (p : ℕ → Bool) (f h m : ℕ) → ((j : ℕ) → h ≤ j → p j ≡ false) → scan_in way p (lines_sought way f h) m ≡ walk way p f m
scan_sought Up p f h m c =
    let s : 20000 - f ≡ (min h 20000 - f) + (20000 - f - (min h 20000 - f)) = omega arith in
    let u : (r : ℕ) → seek p (20000 - f - (min h 20000 - f)) (f + (min h 20000 - f)) r ≡ left r = λ r. seek_unmarked p (20000 - f - (min h 20000 - f)) (f + (min h 20000 - f)) r (λ j a b. c j (omega arith)) in
    sym (ap (λ (k : ℕ). seek p k f m) s ∙ seek-split p (min h 20000 - f) (20000 - f - (min h 20000 - f)) f m ∙ else-left (seek p (min h 20000 - f) f m) _ u)
  where
    else-left : (x : Seek) (go : ℕ → Seek) → ((r : ℕ) → go r ≡ left r) → or_else x go ≡ x
    else-left (at l) go e = refl
    else-left (left r) go e = e r
scan_sought Down p f h m c = let z : min f h - 0 ≡ min f h = omega arith in rw z (cut_down p (min f h) f m (λ j a b. c j (omega arith)) (omega arith))

-- the next window of the lines, and those that are left
module _ (p : ℕ → Bool) (lines : Window) (h : lines.low ≤ lines.end) where
  -- a search of the window, then of what is left
  scan-both : (way : Way) (m : ℕ) → scan_in way p lines m ≡ or_else (scan_in way p (next_window way lines) m) (λ r. scan_in way p (lines_left way lines (next_window way lines)) r)
  scan-both Up m =
      let e : ℕ = min (lines.low + window_length) lines.end in
      let s : lines.end - lines.low ≡ (e - lines.low) + (lines.end - e) = omega arith in
      let t : lines.low + (e - lines.low) ≡ e = omega arith in
      rw (s, seek-split p (e - lines.low) (lines.end - e) lines.low m, t)
  scan-both Down m =
      let l : ℕ = max lines.low (lines.end - window_length) in
      let s : lines.end - lines.low ≡ (l - lines.low) + (lines.end - l) = omega arith in
      let t : lines.low + (l - lines.low) ≡ l = omega arith in
      rw (s, back-split p lines.low (l - lines.low) (lines.end - l) m, t)

  -- what the window finds is found
  pub scan-found : (way : Way) (m l : ℕ) → at l ≡ scan_in way p (next_window way lines) m → at l ≡ scan_in way p lines m
  scan-found way m l q = sym (scan-both way m ∙ ap (λ (x : Seek). or_else x (λ r. scan_in way p (lines_left way lines (next_window way lines)) r)) (sym q))

  -- what it leaves is sought in the lines that are left
  pub scan-left : (way : Way) (m r : ℕ) → left r ≡ scan_in way p (next_window way lines) m → scan_in way p (lines_left way lines (next_window way lines)) r ≡ scan_in way p lines m
  scan-left way m r q = sym (scan-both way m ∙ ap (λ (x : Seek). or_else x (λ i. scan_in way p (lines_left way lines (next_window way lines)) i)) (sym q))

-- a place among the lines
pub place-below : (way : Way) (k i : ℕ) → i < k → place_at way k i < k
place-below Up k i h = h
place-below Down k i h = omega arith

-- no more lines than the marks are one window
pub window_all : (way : Way) (lines : Window) → lines.low ≤ lines.end → lines.end - lines.low ≤ window_length → lines ≡ next_window way lines
window_all Up lines h g = let s : min (lines.low + window_length) lines.end ≡ lines.end = omega arith in rw s
window_all Down lines h g = let s : max lines.low (lines.end - window_length) ≡ lines.low = omega arith in rw s

-- a window of lines lies among them, and is no longer than the marks; what is left is less
pub window_fits : (way : Way) (lines : Window) → lines.low ≤ lines.end
    → ((next_window way lines).low ≤ (next_window way lines).end) × ((next_window way lines).end - (next_window way lines).low ≤ window_length)
window_fits Up lines h = (omega arith, omega arith)
window_fits Down lines h = (omega arith, omega arith)

pub left_less : (way : Way) (lines : Window) → lines.low < lines.end
    → (lines_left way lines (next_window way lines)).end - (lines_left way lines (next_window way lines)).low < lines.end - lines.low
left_less Up lines h = omega arith
left_less Down lines h = omega arith
