-- The run at a place: the words equal to its first that are passed, and those from the next place on. Assumes nothing.
use Prim.Native.Nat.{ℕ, zero, suc, ◌+◌, ◌≤◌, ◌<◌}
use mathlib.Core.Path.{◌≡◌, refl, sym, ap, ◌∙◌}
use mathlib.Core.List.{List, [], ◌∷◌}
use mathlib.Core.Bool.{Bool, true, false, cond}
use mathlib.Core.Logic.{⊎_elim}
use native.Mathlib.Nat.{le_of_suc-le-suc, not-suc-le-zero}
use native.Mathlib.Numerals.{add-one}
use native.Mathlib.Omega.{arith}
use lib.ListN.{length, get_or, take, drop, length-drop}
use Rattle.std.proofs.Common.{◌*◌, one-add}
use Rattle.std.proofs.Math.Nat.{suc-mul}
use Rattle.std.specs.List.{prefix_len}
use Rattle.std.proofs.lemmas.List.Folds.{length-prefix_len}
use borrow.Author.Tests.{le-leb}
use Rattle.text.specs.Split.{split, same}
use Rattle.text.specs.Places.{starts_from}
use Rattle.text.proofs.Which.{same_self, same_equal}
use Rattle.text.proofs.Library.{same_pointwise}
use Rattle.std.specs.Prelude.{nat_eq}
use Rattle.std.specs.Cmp.Lexicographic.{pointwise}
use Rattle.picture_rules.specs.Picture.{Word}
use Rattle.picture_rules.specs.Steps.{runs_of, again_of, first_run}
use Rattle.picture_rules.proofs.Runs.{runs_first}
use Rattle.picture_rules.proofs.Cells.{le_or_lt}
use Rattle.picture_words.specs.Words.{words_left, word_end, word_at}
use Rattle.picture_words.specs.Runs.{start_at, run_at}
use Rattle.picture_words.proofs.Words.{words_past, words-next, starts-here, end_within}

-- the words equal to the first, it included
first_again : (ws : List Word) → first_run ws ≡ again_of (get_or ws 0 []) ws
unfolding first_run again_of
first_again [] = refl
first_again (w ∷ ws) = rw (same_self w)

run_begins : (line : List ℕ) (at : ℕ) (word : Word) → word ≡ word_at line at → first_run (words_left line at) ≡ again_of word (words_left line at)
run_begins line at word e = first_again (words_left line at) ∙ ap (λ (w : Word). again_of w (words_left line at)) (sym e)

-- the first of the starts
start-zero : (line : List ℕ) (at : ℕ) → start_at line at 0 ≡ at
start-zero line at = go (words_left line at)
  where
    go : (ws : List Word) → get_or (starts_from at ws) 0 0 ≡ at
    go [] = unfold starts_from in refl
    go (w ∷ ws) = unfold starts_from in refl

module _ (line : List ℕ) (at e : ℕ) (fits : at ≤ length line) (found : e ≡ word_end line at) where
  start-next : (k : ℕ) → start_at line at (k + 1) ≡ start_at line (e + 1) k
  start-next k = rw (starts-here line at e fits found, add-one k)

-- ---- what follows a run

again_le : (w : Word) (ws : List Word) → again_of w ws ≤ length ws
unfolding again_of
again_le w [] = omega arith
again_le w (x ∷ xs) = go (same x w) (again_le w xs)
  where
    go : (t : Bool) → again_of w xs ≤ length xs → cond t (suc (again_of w xs)) 0 ≤ suc (length xs)
    go true h = omega arith
    go false h = omega arith

first_le : (ws : List Word) → first_run ws ≤ length ws
first_le ws = rw (first_again ws) (again_le (get_or ws 0 []) ws)

-- where a word is left, the line is
words_inside : (line : List ℕ) (at k : ℕ) → k < length (words_left line at) → at ≤ length line
words_inside line at k h = ⊎_elim (λ g. g) (λ g. absurd (omega (arith, h, ap length (words_past line at g)))) (le_or_lt at (length line))

-- the words from the start of word k on are those after the first k
words_after_lem : (line : List ℕ) (k at : ℕ) → k ≤ length (words_left line at) → words_left line (start_at line at k) ≡ drop k (words_left line at)
words_after_lem line zero at h = ap (words_left line) (start-zero line at)
words_after_lem line (suc k) at h =
    let fits = words_inside line at k h in
    let n = words-next line at (word_end line at) fits refl in
    let e : start_at line at (suc k) ≡ start_at line (word_end line at + 1) k = ap (start_at line at) (sym (add-one k)) ∙ start-next line at (word_end line at) fits refl k in
    ap (words_left line) e ∙ words_after_lem line k (word_end line at + 1) (omega (arith, h, ap length n)) ∙ sym (ap (drop (suc k)) n)

-- the runs from a place on are the one that starts there and those from its end on
pub run_runs : (line : List ℕ) (at : ℕ) → at ≤ length line
    → runs_of (words_left line at) ≡ record { word = word_at line at; count = (run_at line at).count } ∷ runs_of (words_left line (run_at line at).next)
unfolding run_at
run_runs line at fits =
    let after = words_after_lem line (first_run (words_left line at)) at (first_le (words_left line at)) in
    rw after (rw (words-next line at (word_end line at) fits refl) (runs_first _ _))

-- and none is left past the end
pub runs_past : (line : List ℕ) (at : ℕ) → length line < at → runs_of (words_left line at) ≡ []
unfolding runs_of
runs_past line at h = rw (words_past line at h)

-- the words of a run and those after it are all
pub run_length : (line : List ℕ) (at : ℕ) → (run_at line at).count + length (words_left line (run_at line at).next) ≡ length (words_left line at)
unfolding run_at
run_length line at =
    let le = first_le (words_left line at) in
    let after = words_after_lem line (first_run (words_left line at)) at le in
    omega (arith, le, ap length after, length-drop (first_run (words_left line at)) (words_left line at))

-- no word starts before the place that it is counted from
starts_on : (at k : ℕ) (ws : List Word) → k ≤ length ws → at ≤ get_or (starts_from at ws) k 0
unfolding starts_from
starts_on at zero [] h = omega arith
starts_on at (suc k) [] h = absurd (not-suc-le-zero h)
starts_on at zero (w ∷ ws) h = omega arith
starts_on at (suc k) (w ∷ ws) h = omega (arith, starts_on (at + length w + 1) k ws (le_of_suc-le-suc h))

first_moves : (at : ℕ) (w : Word) (ws : List Word) → at < get_or (starts_from at (w ∷ ws)) (first_run (w ∷ ws)) 0
unfolding starts_from first_run
first_moves at w ws = omega (arith, starts_on (at + length w + 1) (again_of w ws) ws (again_le w ws))

-- the word after a run starts later
pub run-moves : (line : List ℕ) (at : ℕ) → at ≤ length line → at < (run_at line at).next
unfolding run_at
run-moves line at fits = rw (words-next line at (word_end line at) fits refl) (first_moves at _ _)

-- ---- the words that are counted

taken_len : (w : Word) (ws : List Word) → prefix_len (λ x. pointwise nat_eq x w) ws ≡ again_of w ws
unfolding again_of
taken_len w [] = refl
taken_len w (x ∷ xs) = rw (same_pointwise x w, taken_len w xs, one-add)

-- as many as a search takes from the front
pub again_taken : (w : Word) (ws : List Word) → length (take (prefix_len (λ x. pointwise nat_eq x w) ws) ws) ≡ again_of w ws
again_taken w ws = length-prefix_len (λ x. pointwise nat_eq x w) ws ∙ taken_len w ws

-- what is left of a line that the place lies in
pub words_there : (line rest : List ℕ) (at : ℕ) → at ≤ length line → rest ≡ drop at line → split 9 rest ≡ words_left line at
unfolding words_left
words_there line rest at fits e = rw (e, le-leb at (length line) fits)

-- equal words lie one after the other
again_start : (w : Word) (ws : List Word) (at : ℕ) → get_or (starts_from at ws) (again_of w ws) 0 ≡ at + again_of w ws * (length w + 1)
unfolding again_of starts_from
again_start w [] at = omega arith
again_start w (x ∷ xs) at = go (same x w) refl (again_start w xs (at + length x + 1))
  where
    go : (t : Bool) → same x w ≡ t → get_or (starts_from (at + length x + 1) xs) (again_of w xs) 0 ≡ at + length x + 1 + again_of w xs * (length w + 1)
        → get_or (at ∷ starts_from (at + length x + 1) xs) (cond t (suc (again_of w xs)) 0) 0 ≡ at + cond t (suc (again_of w xs)) 0 * (length w + 1)
    go true e h = h ∙ omega (arith, ap length (same_equal x w e), suc-mul (again_of w xs) (length w + 1))
    go false e h = omega arith

-- no word starts past the place after the line
start_in : (line : List ℕ) (k at : ℕ) → at ≤ length line + 1 → k ≤ length (words_left line at) → start_at line at k ≤ length line + 1
start_in line zero at h g = rw (start-zero line at) h
start_in line (suc k) at h g =
    let fits = words_inside line at k g in
    let n = words-next line at (word_end line at) fits refl in
    let e : start_at line at (suc k) ≡ start_at line (word_end line at + 1) k = ap (start_at line at) (sym (add-one k)) ∙ start-next line at (word_end line at) fits refl k in
    rw e (start_in line k (word_end line at + 1) (omega (arith, end_within line at fits)) (omega (arith, g, ap length n)))

pub run_none : (line : List ℕ) (at : ℕ) → length line < at → record { count = 0; next = at } ≡ run_at line at
unfolding run_at first_run
run_none line at h =
    let z : first_run (words_left line at) ≡ 0 = ap first_run (words_past line at h) in
    let g : start_at line at (first_run (words_left line at)) ≡ at = ap (start_at line at) z ∙ start-zero line at in
    λ i. record { count = sym z i; next = sym g i }

module _ (line : List ℕ) (at count : ℕ) (word : Word) (fits : at ≤ length line) (first : word ≡ word_at line at) (counted : count ≡ again_of word (words_left line at)) where
  start_after : start_at line at count ≡ at + count * (length word + 1)
  start_after = ap (start_at line at) counted ∙ again_start word (words_left line at) at ∙ ap (λ (k : ℕ). at + k * (length word + 1)) (sym counted)

  pub run_inside : at + count * (length word + 1) ≤ length line + 1
  run_inside = omega (arith, start_after, start_in line count at (omega (arith, fits)) (omega (arith, counted, again_le word (words_left line at))))

  pub run_counted : record { count = count; next = at + count * (length word + 1) } ≡ run_at line at
  unfolding run_at
  run_counted =
      let n : first_run (words_left line at) ≡ count = run_begins line at word first ∙ sym counted in
      let g : start_at line at (first_run (words_left line at)) ≡ at + count * (length word + 1) = ap (start_at line at) n ∙ start_after in
      λ i. record { count = sym n i; next = sym g i }
