-- A run cut into its placements, eight numbers each. Assumes nothing.
use mathlib.Core.Path.{◌≡◌, sym, ap, ◌∙◌}
use mathlib.Core.List.{List, ◌++◌}
use Prim.Native.Nat.{ℕ, ◌+◌, ◌*◌, ◌≤◌, ◌<◌}
use native.Mathlib.Omega.{arith}
use lib.IntN.{ℤ, pos}
use lib.ListN.{length, get_or, drop, length-drop, length-append}
use Rattle.std.proofs.lemmas.List.{get_or-drop, get_or_append_left, drop-drop}
use Rattle.std.proofs.Math.Seq.{drop-append_seam}
use Rattle.placement_hits.specs.declared.Asked.{Asked}
use Rattle.placement_hits.specs.Steps.{Listed, number_at, ends_at, is_hit, one_listed}

-- a placement's numbers stand at the front of what is left of the run
module _ (numbers : List ℤ) (n : ℕ) (own rest : List ℤ) (cut : drop (8 * n) numbers ≡ own ++ rest) (whole : length own ≡ 8) where
  number_here : (j : ℕ) → j < 8 → number_at own 0 j ≡ number_at numbers n j
  number_here j h =
      let z : 8 * 0 + j ≡ j = omega arith in
      ap (λ (k : ℕ). get_or own k (pos 0)) z ∙ sym (get_or_append_left own rest (pos 0) j (omega (arith, whole)))
      ∙ sym (ap (λ (l : List ℤ). get_or l j (pos 0)) cut)
      ∙ get_or-drop (8 * n) numbers j (pos 0)

  hit_here : (a : Asked) → is_hit a own 0 ≡ is_hit a numbers n
  unfolding is_hit ends_at
  hit_here a =
      rw (number_here 1 (omega arith), number_here 2 (omega arith), number_here 3 (omega arith), number_here 4 (omega arith), number_here 5 (omega arith))

  -- what is listed of it is what is listed at its index
  pub listed_here : (a : Asked) (index : ℕ) (l r : Listed) → index ≡ n → r ≡ one_listed (is_hit a own 0) index l → r ≡ one_listed (is_hit a numbers n) n l
  listed_here a index l r e h = h ∙ ap (λ (k : ℕ). one_listed (is_hit a own 0) k l) e ∙ ap (λ b. one_listed b n l) (hit_here a)

  -- and what is left after it begins with the next
  pub rest-next : rest ≡ drop (8 * (n + 1)) numbers
  rest-next =
      sym (drop-append_seam own rest) ∙ ap (drop (length own)) (sym cut) ∙ ap (λ (k : ℕ). drop k (drop (8 * n) numbers)) whole ∙ drop-drop 8 (8 * n) numbers
      ∙ ap (λ (k : ℕ). drop k numbers) (omega arith)

  -- one of the 512
  pub one-held : length numbers ≡ 4096 → n < 512
  one-held e = omega (arith, ap length cut, length-append own rest, length-drop (8 * n) numbers, whole, e)

-- fewer than eight numbers are left once all were looked at
pub all-held : (numbers : List ℤ) (n : ℕ) → length numbers ≡ 4096 → length (drop (8 * n) numbers) < 8 → 512 ≤ n
all-held numbers n e h = omega (arith, length-drop (8 * n) numbers, e)
