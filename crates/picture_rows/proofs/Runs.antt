-- What the steps of a row add up to. Assumes nothing.
use Prim.Native.Nat.{ℕ, ◌+◌, ◌≤◌, ◌<◌}
use mathlib.Core.Path.{◌≡◌, sym, ap, ◌∙◌}
use mathlib.Core.List.{List}
use mathlib.Core.Bool.{Bool, true, false}
use lib.ListN.{length}
use native.Mathlib.Omega.{arith}
use borrow.Author.Tests.{eq-eqb, ne_eqb}
use Rattle.panel_tables.specs.declared.AreaEdges.{AreaEdges}
use Rattle.picture_rules.specs.Picture.{Word, is_dots}
use Rattle.picture_rules.specs.Steps.{runs_of, run_box}
use Rattle.picture_words.specs.declared.run.WordRun.{WordRun}
use Rattle.picture_words.specs.Words.{words_left, word_at}
use Rattle.picture_words.specs.Runs.{run_at}
use Rattle.picture_words.proofs.Runs.{run_runs, runs_past, run_length, run-moves}
use Rattle.picture_areas.specs.Runs.{Drawn}
use Rattle.picture_areas.specs.Runs.{edges_of_box, InPicture, draw_in}
use Rattle.picture_rows.specs.Steps.{with_broken, run_in, runs_in}

-- ---- one run

module _ (n : Word) (e : AreaEdges) (x : InPicture) (t : Bool) (told : t ≡ is_dots n) where
  pub step-dots : t ≡ true → x ≡ run_in n e x
  unfolding run_in
  step-dots h = rw (← told, h)

  pub step-drawn : t ≡ false → (y : InPicture) → y ≡ draw_in x.answer.panel x.words x.bytes n e → (d : Drawn) → d ≡ with_broken x.answer.broken y.answer
      → record { answer = d; words = y.words; bytes = y.bytes } ≡ run_in n e x
  unfolding run_in
  step-drawn h y g d f = rw (← told, h, ← g) (ap (λ (a : Drawn). record { answer = a; words = y.words; bytes = y.bytes }) f)

-- ---- where it lies

module _ (line : List ℕ) (at : ℕ) (run : WordRun) (found : run ≡ run_at line at) where
  counts : run.count + length (words_left line run.next) ≡ length (words_left line at)
  counts = ap (λ (r : WordRun). r.count + length (words_left line r.next)) found ∙ run_length line at

  pub next-later : at ≤ length line → at < run.next
  next-later fits = omega (arith, run-moves line at fits, ap (λ (r : WordRun). r.next) found)

pub room_here : (column : ℕ) (line : List ℕ) (at : ℕ) (run : WordRun) → run ≡ run_at line at → column + length (words_left line at) ≤ 10001 → column + run.count ≤ 10001
room_here column line at run found h = omega (arith, counts line at run found, h)

pub room_next : (row column : ℕ) (line : List ℕ) (at : ℕ) (run : WordRun) → run ≡ run_at line at → (e : AreaEdges) → e ≡ edges_of_box (run_box row column run.count)
    → column + length (words_left line at) ≤ 10001 → e.columnend + length (words_left line run.next) ≤ 10001
room_next row column line at run found e edges h = omega (arith, counts line at run found, ap (λ (f : AreaEdges). f.columnend) edges, h)

-- ---- the runs from a place on

-- past the end nothing is left to draw
pub runs_end : (row column : ℕ) (line : List ℕ) (at : ℕ) (x : InPicture) → length line < at → runs_in row column (runs_of (words_left line at)) x ≡ x
unfolding runs_in
runs_end row column line at x h = rw (runs_past line at h)

-- the run at a place, with its word and its edges, and what it leaves
module _ (row column : ℕ) (line : List ℕ) (at : ℕ) (x : InPicture) (fits : at ≤ length line) (run : WordRun) (found : run ≡ run_at line at)
    (n : Word) (word : n ≡ word_at line at) (e : AreaEdges) (edges : e ≡ edges_of_box (run_box row column run.count)) (z : InPicture) (left : z ≡ run_in n e x) where
  step_is : z ≡ run_in (word_at line at) (edges_of_box (run_box row column (run_at line at).count)) x
  step_is = left ∙ ap (λ (m : Word). run_in m e x) word ∙ ap (λ (f : AreaEdges). run_in (word_at line at) f x) (edges ∙ ap (λ (r : WordRun). edges_of_box (run_box row column r.count)) found)

  -- drawn: the rest is left
  pub runs-next : z.answer.fault ≡ 0 → runs_in row column (runs_of (words_left line at)) x ≡ runs_in row e.columnend (runs_of (words_left line run.next)) z
  unfolding runs_in
  runs-next h =
      rw (run_runs line at fits, ← step_is, eq-eqb z.answer.fault 0 h)
      (ap (λ (r : WordRun). runs_in row (column + r.count) (runs_of (words_left line r.next)) z) (sym found) ∙ ap (λ (c : ℕ). runs_in row c (runs_of (words_left line run.next)) z) (ap (λ (f : AreaEdges). f.columnend) (sym edges)))

  -- refused
  pub runs-stop : (z.answer.fault ≡ 0 → ⊥) → runs_in row column (runs_of (words_left line at)) x ≡ z
  unfolding runs_in
  runs-stop h = rw (run_runs line at fits, ← step_is, ne_eqb z.answer.fault 0 h)
