-- A text cut at a separator byte.
use Rattle.std.specs.Prelude.{ℕ, suc, ◌+◌, ◌≤◌, ◌<◌, ◌≡◌, List, [], ◌∷◌, Bool, true, false, cond, eqb, length, drop}

-- how many bytes stand before the first `b`; all of them where there is none
unfoldable pub before : ℕ → List ℕ → ℕ
before b [] = 0
before b (x ∷ xs) = cond (eqb x b) 0 (suc (before b xs))

-- no `b` stands from a place on
abbrev pub Absent : ℕ → ℕ → List ℕ → Type 0
Absent b at s = length s ≤ at + before b (drop at s)

-- the first `b` from a place on stands there
abbrev pub FirstAt : ℕ → ℕ → List ℕ → ℕ → Type 0
FirstAt b at s k = (k ≡ at + before b (drop at s)) × (k < length s)

-- x in front of the first part
unfoldable pub onto : ℕ → List (List ℕ) → List (List ℕ)
onto x [] = (x ∷ []) ∷ []
onto x (p ∷ ps) = (x ∷ p) ∷ ps

-- the parts between the separators: one more than there are separators
unfoldable pub split : ℕ → List ℕ → List (List ℕ)
split b [] = [] ∷ []
split b (x ∷ xs) = cond (eqb x b) ([] ∷ split b xs) (onto x (split b xs))

-- whether two lists of bytes are equal
unfoldable pub same : List ℕ → List ℕ → Bool
same [] [] = true
same [] (y ∷ ys) = false
same (x ∷ xs) [] = false
same (x ∷ xs) (y ∷ ys) = cond (eqb x y) (same xs ys) false

-- the place of f among the parts, and their number where it is none
unfoldable pub index : List ℕ → List (List ℕ) → ℕ
index f [] = 0
index f (p ∷ ps) = cond (same p f) 0 (suc (index f ps))
