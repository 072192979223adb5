-- A part of a list, written as a whole or in one place: it holds what was written, and what lies before and after it is as it was.
use Prim.Native.Nat.{ℕ, ◌+◌, ◌-◌, ◌≤◌, ◌<◌}
use mathlib.Core.Path.{◌≡◌, sym, ap, ◌∙◌}
use mathlib.Core.List.{List, ◌++◌}
use native.Mathlib.Omega.{arith}
use lib.ListN.{length, take, drop, set, replicate, length-drop, length-replicate, take-append-drop, replicate-append-replicate}
use lib.Seq.{drop-set-add, drop-set-lt, take-set-lt, take-set-le, length-take-le, take_at, drop_at, take-append-le, drop-append-le, drop-drop}
use borrow.Rule.Slice.PartMut.{drop_put}
use Rattle.axis_tables.specs.Runs.{part_of, with_part}

pub part_length : (s : List ℕ) (a n : ℕ) → a + n ≤ length s → length (part_of s a n) ≡ n
part_length s a n h = length-take-le n (drop a s) (rw length-drop (omega arith))

-- a part of zeros
pub zeros_part : (m a n : ℕ) → a + n ≤ m → part_of (replicate m 0) a n ≡ replicate n 0
zeros_part m a n h =
    let k : ℕ = m - (a + n) in
    let e : m ≡ a + (n + k) = omega arith in
    ap (λ (j : ℕ). part_of (replicate j 0) a n) e
    ∙ ap (λ (s : List ℕ). part_of s a n) (sym (replicate-append-replicate a (n + k) 0))
    ∙ ap (take n) (drop_at (replicate a 0) (replicate (n + k) 0) a (length-replicate a 0) ∙ sym (replicate-append-replicate n k 0))
    ∙ take_at (replicate n 0) (replicate k 0) n (length-replicate n 0)

-- ---- one place is set
module _ (s : List ℕ) (a n v : ℕ) where
  -- in the part
  pub set-inside : (i : ℕ) → i < n → part_of (set s (a + i) v) a n ≡ set (part_of s a n) i v
  set-inside i h = rw (drop-set-add a s i v) (take-set-lt n (drop a s) i v h)

  -- before it
  pub set_before : (j : ℕ) → j < a → part_of (set s j v) a n ≡ part_of s a n
  set_before j h = rw (drop-set-lt a s j v h)

  -- after it
  pub set_after : (j : ℕ) → a + n ≤ j → part_of (set s j v) a n ≡ part_of s a n
  set_after j h =
      let e : j ≡ a + (j - a) = omega arith in
      ap (λ (k : ℕ). part_of (set s k v) a n) e
      ∙ ap (take n) (drop-set-add a s (j - a) v)
      ∙ take-set-le n (drop a s) (j - a) v (omega arith)

-- ---- a part was lent and is back
module _ (s ys : List ℕ) (a n : ℕ) (h : a + n ≤ length s) where
  -- it holds what it came back with
  pub lent-own : length ys ≡ n → part_of (with_part s a n ys) a n ≡ ys
  lent-own e =
      ap (take n) (drop_at (take a s) (ys ++ drop n (drop a s)) a (length-take-le a s (omega arith)))
      ∙ take_at ys (drop n (drop a s)) n e

  front : (z : List ℕ) (b m : ℕ) → b + m ≤ a → part_of (take a s ++ z) b m ≡ take m (drop b (take a s))
  front z b m k =
      let l : length (take a s) ≡ a = length-take-le a s (omega arith) in
      ap (take m) (drop-append-le b (take a s) z (omega (arith, l)))
      ∙ take-append-le m (drop b (take a s)) z (omega (arith, l, length-drop b (take a s)))

  -- what lies before it is as it was
  pub lent-before : (b m : ℕ) → b + m ≤ a → part_of (with_part s a n ys) b m ≡ part_of s b m
  lent-before b m k =
      front (ys ++ drop n (drop a s)) b m k
      ∙ sym (front (drop a s) b m k)
      ∙ ap (λ (z : List ℕ). part_of z b m) (take-append-drop a s)

  -- and so is what lies after it
  pub lent-after : length ys ≡ n → (b m : ℕ) → a + n ≤ b → part_of (with_part s a n ys) b m ≡ part_of s b m
  lent-after e b m k =
      let d : a + n - a ≡ n = omega arith in
      let q : drop (a + n) (with_part s a n ys) ≡ drop (a + n) s = ap (λ (j : ℕ). drop (a + n) (with_part s a j ys)) (sym d) ∙ drop_put a (a + n) s ys (omega arith) h (e ∙ sym d) in
      let f : a + n + (b - (a + n)) ≡ b = omega arith in
      ap (λ (j : ℕ). take m (drop j (with_part s a n ys))) (sym f)
      ∙ ap (take m) (sym (drop-drop (b - (a + n)) (a + n) (with_part s a n ys)) ∙ ap (drop (b - (a + n))) q ∙ drop-drop (b - (a + n)) (a + n) s)
      ∙ ap (λ (j : ℕ). take m (drop j s)) f
