-- `find_map` over the distances finds what the search does. Assumes nothing.
use Rattle.std.specs.Prelude.{ℕ, zero, suc, ◌+◌, ◌-◌, ◌<◌, ◌≤◌, ◌≡◌, Bool, true, Option, Some, None, IsSomeAnd, IfSome, MatchOption}
use mathlib.Core.Path.{refl, sym, ap, ap₂, subst, ◌∙◌}
use mathlib.Core.Bool.{true≢false}
use native.Mathlib.Omega.{arith}
use denote.Param.Members.{Mut, Called}
use Rattle.std.specs.Prelude.{is_some}
use Rattle.std.specs.Option.{option_map}
use Rattle.std.specs.Iterator.Runs.{Run, ItemsCountUp, CallKeepsClosure, AllItemsGive, IsFirstToGive}
use Rattle.least_resize.specs.Search.{at_distance, or_else, search_from}

module _ (differs : ℕ → Bool) (size : ℕ) where
  -- no distance finds a size
  none : (k d : ℕ) → ((n : ℕ) → d ≤ n → n < d + k → None ≡ at_distance differs size n) → None ≡ search_from differs size d k
  unfolding search_from
  none zero d h = refl
  none (suc k) d h = ap₂ or_else (h d (omega arith) (omega arith)) (none k (d + 1) (λ n a b. h n (omega arith) (omega arith)))

  -- one does, and none before it
  first : (k d m y : ℕ) → m < k → Some y ≡ at_distance differs size (d + m) → ((n : ℕ) → d ≤ n → n < d + m → None ≡ at_distance differs size n) → Some y ≡ search_from differs size d k
  unfolding search_from
  first zero d m y a e h = absurd (omega arith)
  first (suc k) d zero y a e h = let z : d + 0 ≡ d = omega arith in ap (λ (o : Option ℕ). or_else o (search_from differs size (d + 1) k)) (e ∙ ap (at_distance differs size) z)
  first (suc k) d (suc m) y a e h =
      let z : d + suc m ≡ d + 1 + m = omega arith in
      ap₂ or_else (h d (omega arith) (omega arith)) (first k (d + 1) m y (omega arith) (e ∙ ap (at_distance differs size) z) (λ n b c. h n (omega arith) (omega arith)))

known : (P : ℕ → Type 0) (o : Option ℕ) (n : ℕ) → option_map (λ y. y) o ≡ Some n → IfSome o P → P n
known P None n e h = absurd (true≢false (sym (ap is_some e)))
known P (Some x) n e h = subst P (ap (λ (o : Option ℕ). elim o [ None ↦ n | Some z ↦ z ]) e) h

given : (P : ℕ → Type 0) (o : Option ℕ) → IsSomeAnd o P → IfSome o P
given P None h = absurd h
given P (Some x) h = h

module _ {S F : Type 0} {steps : S → Option ℕ → S → Type 0} {g : Mut F (ℕ × Unit {0}) (Option ℕ)} {f : F} (differs : ℕ → Bool) (size : ℕ) (p : Run steps) (counts : ItemsCountUp p 1 65536)
    (told : (x : ℕ) (r : Option ℕ) (q : F) → Called g f (x, tt) r q → (q ≡ f) × (r ≡ at_distance differs size x)) where
  says : (r : Option ℕ) (k : ℕ) → k < p.len → IfSome (p.at k) (λ x. Called g f (x, tt) r f) → r ≡ at_distance differs size (1 + k)
  says r k l h = known (λ x. r ≡ at_distance differs size x) (p.at k) (1 + k) (counts.3 k l) (by (p.at k) h)
    where
      by : (o : Option ℕ) → IfSome o (λ x. Called g f (x, tt) r f) → IfSome o (λ x. r ≡ at_distance differs size x)
      by None h = tt
      by (Some x) h = (told x r f h).1

  before : (n d : ℕ) → ((k : ℕ) → k < n → None ≡ at_distance differs size (1 + k)) → 1 ≤ d → d < 1 + n → None ≡ at_distance differs size d
  before n d h a b = let z : 1 + (d - 1) ≡ d = omega arith in h (d - 1) (omega arith) ∙ ap (at_distance differs size) z

  pub found : (r : Option ℕ) → MatchOption r ((p.whole ≡ true) × AllItemsGive p g f None) (λ y. (i : ℕ) × (i < p.len) × (p.len ≡ i + 1) × IsFirstToGive p g f (Some y) None i) → r ≡ search_from differs size 1 65535
  found None h =
      let stays : CallKeepsClosure g f = λ a r q k. (told a.0 r q k).0 in
      let all = h.1 stays in
      none differs size 65535 1 (λ n a b. before 65535 n (λ k l. says None k (omega (arith, l, counts.1 h.0)) (all k)) a (omega arith))
  found (Some y) h =
      let stays : CallKeepsClosure g f = λ a r q k. (told a.0 r q k).0 in
      let i = h.0 in
      let all = h.3 stays in
      first differs size 65535 1 i y (omega (arith, h.1, counts.0)) (says (Some y) i h.1 (given _ (p.at i) all.0))
      (λ n a b. before i n (λ k l. says None k (omega (arith, l, h.1)) (given _ (p.at k) (all.1 k l))) a b)
