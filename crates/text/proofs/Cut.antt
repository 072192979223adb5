-- `split` is what its name says: no part holds the separator, and the parts with a separator between each two are the text. Assumes nothing.
use Prim.Native.Nat.{ℕ}
use mathlib.Core.Path.{◌≡◌, refl}
use mathlib.Core.List.{List, [], ◌∷◌, ◌++◌}
use mathlib.Core.Bool.{Bool, true, false, cond}
use lib.Dec.{eqb}
use borrow.Author.Tests.{eqb-true, eqb-false}
use Rattle.text.specs.Split.{split, onto}

-- the parts with b between each two
unfoldable pub join : ℕ → List (List ℕ) → List ℕ
join b [] = []
join b (p ∷ []) = p
join b (p ∷ q ∷ ps) = p ++ b ∷ join b (q ∷ ps)

-- no byte of the text is b
abbrev pub Free : ℕ → List ℕ → Type 0
Free b [] = Unit {0}
Free b (x ∷ xs) = (x ≡ b → ⊥) × Free b xs

abbrev pub AllFree : ℕ → List (List ℕ) → Type 0
AllFree b [] = Unit {0}
AllFree b (p ∷ ps) = Free b p × AllFree b ps

join-onto : (b x : ℕ) (ps : List (List ℕ)) → join b (onto x ps) ≡ x ∷ join b ps
unfolding join onto
join-onto b x [] = refl
join-onto b x (p ∷ []) = refl
join-onto b x (p ∷ q ∷ ps) = refl

join_empty : (b : ℕ) (l : List ℕ) → join b ([] ∷ split b l) ≡ b ∷ join b (split b l)
unfolding join split onto
join_empty b [] = refl
join_empty b (x ∷ xs) = go (split b xs) (eqb x b)
  where
    go : (ps : List (List ℕ)) (t : Bool) → join b ([] ∷ cond t ([] ∷ ps) (onto x ps)) ≡ b ∷ join b (cond t ([] ∷ ps) (onto x ps))
    go ps true = refl
    go [] false = refl
    go (p ∷ ps) false = refl

pub join-split : (b : ℕ) (s : List ℕ) → join b (split b s) ≡ s
unfolding split join
join-split b [] = refl
join-split b (x ∷ xs) = go (eqb x b) refl (join-split b xs)
  where
    go : (t : Bool) → eqb x b ≡ t → join b (split b xs) ≡ xs → join b (cond t ([] ∷ split b xs) (onto x (split b xs))) ≡ x ∷ xs
    go true q i = let e = eqb-true x b q in let h = join_empty b xs in cc
    go false q i = let h = join-onto b x (split b xs) in cc

free_onto : (b x : ℕ) (ps : List (List ℕ)) → (x ≡ b → ⊥) → AllFree b ps → AllFree b (onto x ps)
unfolding onto
free_onto b x [] h f = ((h, tt), tt)
free_onto b x (p ∷ ps) h f = ((h, f.0), f.1)

pub split_free : (b : ℕ) (s : List ℕ) → AllFree b (split b s)
unfolding split
split_free b [] = (tt, tt)
split_free b (x ∷ xs) = go (eqb x b) refl (split_free b xs)
  where
    go : (t : Bool) → eqb x b ≡ t → AllFree b (split b xs) → AllFree b (cond t ([] ∷ split b xs) (onto x (split b xs)))
    go true q i = (tt, i)
    go false q i = free_onto b x (split b xs) (eqb-false x b q) i
