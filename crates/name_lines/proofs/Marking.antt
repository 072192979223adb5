-- Places marked: one more, none, and one after the other. Assumes nothing.
use mathlib.Core.Path.{◌≡◌, refl, sym, ap, ◌∙◌}
use mathlib.Core.Bool.{Bool, true, false, ◌&&◌, ◌||◌}
use mathlib.Core.List.{List}
use Prim.Native.Nat.{ℕ, suc, ◌+◌, ◌-◌, ◌≤◌, ◌<◌}
use native.Mathlib.Decide.{ℕ_discrete}
use native.Mathlib.Omega.{arith}
use borrow.Author.Tests.{ne_eqb, eq-eqb, lt-ltb}
use lib.Dec.{eqb}
use lib.ListN.{length, set, length-set, replicate, length-replicate, get_or-replicate}
use lib.Seq.{get_or-set_same, get_or-set_other}
use Rattle.name_lines.specs.Marks.{marked, Adds, lies_in}
use Rattle.name_lines.proofs.Suffixes.{never, and_yes, and_no}

pub or_false : (a : Bool) → (a || false) ≡ a
or_false true = refl
or_false false = refl

or_true : (a : Bool) → (a || true) ≡ true
or_true true = refl
or_true false = refl

pub or_assoc : (a b c : Bool) → ((a || b) || c) ≡ (a || (b || c))
or_assoc true b c = refl
or_assoc false b c = refl

-- no place is marked
pub mark-none : (ms : List Bool) (p : ℕ → Bool) → ((k : ℕ) → k < length ms → p k ≡ false) → Adds ms ms p
mark-none ms p h = record { kept = refl; places = λ k l. rw (h k l) (sym (or_false (marked ms k))) }

-- the line of a number in a window that begins at line low
module _ (ms : List Bool) (low n : ℕ) where
  -- it lies before the window
  pub mark-before : n ≤ low → Adds ms ms (λ k. eqb n (suc (low + k)))
  mark-before h = mark-none ms (λ k. eqb n (suc (low + k))) (λ k b. ne_eqb n (suc (low + k)) (λ q. omega arith))

  -- it lies past the window
  pub mark-past : length ms ≤ n - low - 1 → Adds ms ms (λ k. eqb n (suc (low + k)))
  mark-past h = mark-none ms (λ k. eqb n (suc (low + k))) (λ k b. ne_eqb n (suc (low + k)) (λ q. omega arith))

  -- it lies in the window, or past it, where nothing is set
  pub mark-one : low < n → Adds ms (set ms (n - low - 1) true) (λ k. eqb n (suc (low + k)))
  mark-one z = record { kept = length-set ms (n - low - 1) true; places = λ k l. elim (ℕ_discrete k (n - low - 1)) [ yes s ↦ here k l s | no s ↦ there k s ] }
    where
      here : (k : ℕ) → k < length ms → k ≡ n - low - 1 → marked (set ms (n - low - 1) true) k ≡ (marked ms k || eqb n (suc (low + k)))
      here k b s = rw (eq-eqb n (suc (low + k)) (omega arith), s) (rw (get_or-set_same ms (n - low - 1) true false (omega arith)) (sym (or_true (marked ms (n - low - 1)))))

      there : (k : ℕ) → (k ≡ n - low - 1 → ⊥) → marked (set ms (n - low - 1) true) k ≡ (marked ms k || eqb n (suc (low + k)))
      there k s = rw (ne_eqb n (suc (low + k)) (λ q. s (omega arith)), get_or-set_other ms (n - low - 1) k true false s) (sym (or_false (marked ms k)))

  -- it lies outside, so whatever else is asked of it, it marks nothing
  pub mark-outside : (t : Bool) → lies_in low (length ms) n ≡ false → Adds ms ms (λ k. eqb n (suc (low + k)) && t)
  mark-outside t e = mark-none ms (λ k. eqb n (suc (low + k)) && t) (λ k b. rw (ne_eqb n (suc (low + k)) (λ q. outside k b q)))
    where
      outside : (k : ℕ) → k < length ms → n ≡ suc (low + k) → ⊥
      outside k b q =
          let i : lies_in low (length ms) n ≡ true = rw (lt-ltb low n (omega arith), lt-ltb (n - low - 1) (length ms) (omega arith)) in
          never (sym e ∙ i)

-- places marked one after the other
pub mark-both : (a b c : List Bool) (p q : ℕ → Bool) → Adds a b p → Adds b c q → Adds a c (λ k. p k || q k)
mark-both a b c p q f g =
    let e : length b ≡ length a = f.kept in
    record {
      kept = g.kept ∙ f.kept;
      places = λ k l. g.places k (omega arith) ∙ rw (f.places k l) (or_assoc (marked a k) (p k) (q k));
    }

-- the lines of one name, in other words
pub mark-same : (a b : List Bool) (p q : ℕ → Bool) → ((k : ℕ) → p k ≡ q k) → Adds a b p → Adds a b q
mark-same a b p q e f = record { kept = f.kept; places = λ k l. f.places k l ∙ rw (e k) }

-- an edge is marked only where the name is the area's, a line only where its entry has the name
pub mark_if : (a b : List Bool) (low n : ℕ) (t : Bool) → t ≡ true → Adds a b (λ k. eqb n (suc (low + k))) → Adds a b (λ k. eqb n (suc (low + k)) && t)
mark_if a b low n t e f = mark-same a b _ _ (λ k. rw e (sym (and_yes (eqb n (suc (low + k)))))) f

pub mark-not : (a : List Bool) (low n : ℕ) (t : Bool) → t ≡ false → Adds a a (λ k. eqb n (suc (low + k)) && t)
mark-not a low n t e = mark-none a _ (λ k h. rw e (and_no (eqb n (suc (low + k)))))

-- what is still to be marked: of the places p, the places q are left
pub record Rest (before now : List Bool) (q p : ℕ → Bool) : Type 0 where
  pub kept : length now ≡ length before
  pub places : (k : ℕ) → k < length before → (marked now k || q k) ≡ (marked before k || p k)

pub rest-start : (a : List Bool) (q p : ℕ → Bool) → ((k : ℕ) → q k ≡ p k) → Rest a a q p
rest-start a q p e = record { kept = refl; places = λ k l. rw (e k) }

pub rest-step : (a b c : List Bool) (q r s p : ℕ → Bool) → ((k : ℕ) → q k ≡ (r k || s k)) → Rest a b q p → Adds b c r → Rest a c s p
rest-step a b c q r s p e f g =
    let n : length b ≡ length a = f.kept in
    record {
      kept = g.kept ∙ f.kept;
      places = λ k l. rw (g.places k (omega arith)) (or_assoc (marked b k) (r k) (s k) ∙ rw (← (e k)) (f.places k l));
    }

pub rest_end : (a b : List Bool) (q p : ℕ → Bool) → ((k : ℕ) → q k ≡ false) → Rest a b q p → Adds a b p
rest_end a b q p e f = record { kept = f.kept; places = λ k l. sym (or_false (marked b k)) ∙ ap (λ (t : Bool). marked b k || t) (sym (e k)) ∙ f.places k l }

-- marks that began with none are the places marked
pub fresh : (n : ℕ) (after : List Bool) (p : ℕ → Bool) → Adds (replicate n false) after p → (k : ℕ) → k < n → marked after k ≡ p k
fresh n after p f k g = f.places k (rw (length-replicate {A = Bool} n false) g) ∙ rw (get_or-replicate {A = Bool} n k false false g)
