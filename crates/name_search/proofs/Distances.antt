-- The least distance at which a test holds: one test, none, and one after the other. Assumes nothing.
use mathlib.Core.Path.{◌≡◌, sym, ◌∙◌}
use mathlib.Core.Bool.{Bool, true, false, ◌&&◌, ◌||◌}
use Prim.Native.Nat.{ℕ, ◌≤◌, ◌<◌, min}
use native.Mathlib.Decide.{ℕ_discrete}
use native.Mathlib.Omega.{arith}
use borrow.Author.Tests.{ne_eqb, eq-eqb}
use lib.Dec.{eqb}
use Rattle.name_lines.proofs.Suffixes.{and_no, and_yes}
use Rattle.name_lines.specs.declared.Way.{Way}
use Rattle.name_search.specs.Nearest.{number_at, Nearest}

-- the test holds at no distance that counts
pub nearest_none : (p : ℕ → Bool) (best : ℕ) → ((d : ℕ) → d < best → p d ≡ false) → Nearest p best best
nearest_none p best h = record { within = omega arith; holds = λ l. absurd (omega arith); nearer = h }

-- the test holds at one distance, and at none before it
nearest_one : (p : ℕ → Bool) (best e r : ℕ) → r ≡ min e best → p e ≡ true → ((d : ℕ) → d < e → p d ≡ false) → Nearest p best r
nearest_one p best e r m y h = record { within = omega arith; holds = λ l. let s : r ≡ e = omega arith in rw s y; nearer = λ d l. h d (omega arith) }

-- the line of a number n, for a search from line f
module _ (way : Way) (f n best : ℕ) where
  -- it does not lie on the side that the search goes to
  pub number-none : ((d : ℕ) → n ≡ number_at way f d → ⊥) → Nearest (λ d. eqb n (number_at way f d)) best best
  number-none h = nearest_none (λ d. eqb n (number_at way f d)) best (λ d l. ne_eqb n (number_at way f d) (h d))

  -- it lies there, at distance e
  pub number-one : (e r : ℕ) → n ≡ number_at way f e → ((d : ℕ) → d < e → n ≡ number_at way f d → ⊥) → r ≡ min e best → Nearest (λ d. eqb n (number_at way f d)) best r
  number-one e r h g m = nearest_one (λ d. eqb n (number_at way f d)) best e r m (eq-eqb n (number_at way f e) h) (λ d l. ne_eqb n (number_at way f d) (g d l))

-- the same test in other words
pub nearest_same : (p q : ℕ → Bool) (best r : ℕ) → ((d : ℕ) → p d ≡ q d) → Nearest p best r → Nearest q best r
nearest_same p q best r e n = record { within = n.within; holds = λ l. sym (e r) ∙ n.holds l; nearer = λ d l. sym (e d) ∙ n.nearer d l }

-- a line counts only where its entry or area has the name
module _ (p : ℕ → Bool) (best r : ℕ) (t : Bool) where
  -- it has the name
  pub nearest-if : t ≡ true → Nearest p best r → Nearest (λ d. p d && t) best r
  nearest-if e n = nearest_same p (λ d. p d && t) best r (λ d. rw e (sym (and_yes (p d)))) n

  -- it has another
  pub nearest-not : t ≡ false → Nearest (λ d. p d && t) best best
  nearest-not e = nearest_none (λ d. p d && t) best (λ d l. rw e (and_no (p d)))

  -- it is not nearer, whatever its name
  pub nearest-far : best ≤ r → Nearest p best r → Nearest (λ d. p d && t) best best
  nearest-far h n = nearest_none (λ d. p d && t) best (λ d l. rw (n.nearer d (omega arith)))

-- two tests one after the other
pub nearest_both : (p q : ℕ → Bool) (best b r : ℕ) → Nearest p best b → Nearest q b r → Nearest (λ d. p d || q d) best r
nearest_both p q best b r n k =
    record {
      within = omega (arith, n.within, k.within);
      holds = λ l. elim (ℕ_discrete r b) [ yes s ↦ first l s | no s ↦ second s ];
      nearer = λ d l. rw (n.nearer d (omega (arith, k.within)), k.nearer d l);
    }
  where
    first : r < best → r ≡ b → (p r || q r) ≡ true
    first l s = rw s (rw (n.holds (omega arith)))

    second : (r ≡ b → ⊥) → (p r || q r) ≡ true
    second s = rw (n.nearer r (omega (arith, k.within))) (k.holds (omega (arith, k.within)))
