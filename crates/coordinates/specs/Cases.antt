-- M1, M2 and M3 of document 01, with three explicit tracks, on the definitions that the contracts cite: one list, one test.
use Rattle.std.specs.Prelude.{Bool, true, false, ◌&&◌, List, [], ◌∷◌, T, eqb, ℤ, pos, negsuc}
use Rattle.coordinates.specs.Answers.{origin_zero_answer, grid_line_answer}

-- a grid line, the origin-zero line that it is, and the grid line that this is again
pub record Case : Type 0 where
  pub grid : ℤ
  pub line : ℤ
  pub back : ℤ

abbrev pub case : ℤ → ℤ → ℤ → Case
case g l b = record { grid = g; line = l; back = b }

-- M1: line -1 is 3. M2: line -5 is -1 and back -5. M3: line 32,767 is 10,000, back 10,001.
abbrev pub M1_to_M3 : List Case
M1_to_M3 = case (negsuc 0) (pos 3) (pos 4) ∷ case (negsuc 4) (negsuc 0) (negsuc 4) ∷ case (pos 32767) (pos 10000) (pos 10001) ∷ []

abbrev pub same : ℤ → ℤ → Bool
same (pos a) (pos b) = eqb a b
same (pos a) (negsuc b) = false
same (negsuc a) (pos b) = false
same (negsuc a) (negsuc b) = eqb a b

abbrev pub holds : Case → Bool
holds c =
    let there = origin_zero_answer 3 c.grid in
    let back = grid_line_answer 3 c.line in
    eqb there.refusal.number 0 && same there.line.0 c.line && eqb back.refusal.number 0 && same back.line.0 c.back

abbrev pub every : {A : Type 0} → (A → Bool) → List A → Bool
every p [] = true
every p (x ∷ xs) = p x && every p xs

pub marked : T (every holds M1_to_M3)
unfolding origin_zero_answer grid_line_answer
marked = tt
