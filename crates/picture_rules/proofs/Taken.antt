-- Rows taken one after the other: not broken, they have the areas of the picture so far; and they don't break where it is filled. Assumes nothing.
use Prim.Native.Nat.{ℕ, ◌+◌, ◌≤◌}
use mathlib.Core.Path.{◌≡◌, refl, sym, ap, subst, ◌∙◌}
use mathlib.Core.List.{List, [], ◌∷◌, ◌++◌, append_assoc, append-nil}
use mathlib.Core.Bool.{Bool, true, false, cond, false≢true, true≢false}
use mathlib.Core.Logic.{inl}
use native.Mathlib.Omega.{arith}
use lib.ListN.{length, replicate, length-append, length-replicate}
use Rattle.picture_rules.specs.Picture.{Word, Picture, ElementAt, is_dots, AllFilled, PictureArea, NamesOf, AreasOf}
use Rattle.picture_rules.specs.Steps.{EqualRun, run_box, continues, drawn, fits, PictureState, name_run_step, run_step, runs_from, runs_of, row_counted, row_step, rows_from}
use Rattle.picture_rules.proofs.Cells.{element-right, element-repeated, element-same, element-left}
use Rattle.picture_rules.proofs.Lists.{among-right}
use Rattle.picture_rules.proofs.Runs.{written, Apart, Longest, runs_written, runs_longest}
use Rattle.picture_rules.proofs.Drawn.{Found, new, known, found}
use Rattle.picture_rules.proofs.Grown.{under, empty_names, empty_row, dots-names, dots-keep, new-names, known-names, new-keep, known-keep, filled-continues}

-- ---- broken stays broken

cond_true : (t : Bool) → cond t true true ≡ true
cond_true true = refl
cond_true false = refl

run_stays : (row column : ℕ) (x : EqualRun) (s : PictureState) → s.broken ≡ true → (run_step row column x s).broken ≡ true
unfolding run_step
run_stays row column x s h = go (is_dots x.word)
  where
    area : PictureArea
    area = record { name = x.word; box = run_box row column x.count }

    go : (t : Bool) → (cond t s (name_run_step area s)).broken ≡ true
    go true = h
    go false = rw h (cond_true (fits area s.areas))

pub runs_stay : (row column : ℕ) (l : List EqualRun) (s : PictureState) → s.broken ≡ true → (runs_from row column l s).broken ≡ true
unfolding runs_from
runs_stay row column [] s h = h
runs_stay row column (x ∷ xs) s h = runs_stay row (column + x.count) xs (run_step row column x s) (run_stays row column x s h)

pub rows_stay : (p : Picture) (s : PictureState) → s.broken ≡ true → (rows_from s p).broken ≡ true
unfolding rows_from row_step
rows_stay [] s h = h
rows_stay (ws ∷ p) s h = rows_stay p (row_step s ws) (runs_stay (s.rows + 1) 1 (runs_of ws) s h)

-- ---- one step, and all that follow

-- not broken, a state has the areas of the picture so far; where the whole picture is filled it is not broken
pub record Sound (whole sofar : Picture) (s : PictureState) : Type 0 where
  pub areas : s.broken ≡ false → AreasOf sofar s.areas
  pub unbroken : AllFilled whole → s.broken ≡ false

-- a broken state is sound where the whole picture is not filled
broken_sound : (whole sofar : Picture) (s : PictureState) → s.broken ≡ true → (AllFilled whole → ⊥) → Sound whole sofar s
broken_sound whole sofar s h n = record { areas = λ k. absurd (false≢true (sym k ∙ h)); unbroken = λ k. absurd (n k) }

-- what stays broken is sound after a sound step, and the rest by itself
then : (whole sofar after : Picture) (s t : PictureState) → Sound whole sofar s
    → (s.broken ≡ true → t.broken ≡ true) → (s.broken ≡ false → AreasOf sofar s.areas → Sound whole after t) → Sound whole after t
then whole sofar after s t a stay more = go s.broken refl
  where
    go : (u : Bool) → s.broken ≡ u → Sound whole after t
    go true e = broken_sound whole after t (stay e) (λ k. false≢true (sym (a.unbroken k) ∙ e))
    go false e = more e (a.areas e)

-- ---- one run

-- the first of the runs has another word than stands last before it
abbrev Fresh : List Word → List EqualRun → Type 0
Fresh done [] = Unit {0}
Fresh done (x ∷ xs) = ElementAt [] done (length done) x.word → ⊥

-- the last word of a row that ends in a run
last_word : (done : List Word) (count : ℕ) (w n : Word) → 1 ≤ count → ElementAt [] (done ++ replicate count w) (length (done ++ replicate count w)) n → w ≡ n
last_word done count w n h k =
    let e : length done + count ≡ length (done ++ replicate count w) = omega (arith, length-append done (replicate count w), length-replicate count w) in
    element-same [] (done ++ replicate count w) (length (done ++ replicate count w)) w n
    (rw e at (element-right [] done (replicate count w) count w (element-repeated [] count w count h (omega arith)))) k

fresh-after : (done : List Word) (count : ℕ) (w : Word) (l : List EqualRun) → 1 ≤ count → Apart w l → Fresh (done ++ replicate count w) l
fresh-after done count w [] h a = tt
fresh-after done count w (x ∷ xs) h a = λ k. a (last_word done count w x.word h k)

-- a run ends where another word begins
ended : (w : Word) (l : List EqualRun) → Longest l → Apart w l → ElementAt [] (written l) 1 w → ⊥
ended w [] h a k = omega (arith, k.1)
ended w (x ∷ xs) h a k = a (sym (element-same [] (written (x ∷ xs)) 1 x.word w (element-left [] (replicate x.count x.word) (written xs) 1 x.word (element-repeated [] x.count x.word 1 (omega arith) h.0)) k))

module _ (p q : Picture) (done : List Word) (x : EqualRun) (rest : List EqualRun) (long : Longest (x ∷ rest)) (fresh : Fresh done (x ∷ rest)) (s : PictureState)
    (unbroken : s.broken ≡ false) (held : AreasOf (under p done) s.areas) where
  abbrev whole : Picture
  whole = p ++ (done ++ (replicate x.count x.word ++ written rest)) ∷ q

  abbrev after : Picture
  after = under p (done ++ replicate x.count x.word)

  abbrev area : PictureArea
  area = record { name = x.word; box = run_box (length p + 1) (length done + 1) x.count }

  name-sound : is_dots x.word ≡ false → Found area s.areas → Sound whole after (name_run_step area s)
  name-sound d (new other e f) =
      record {
        areas = λ h. rw e (new-keep p done x.count x.word long.0 d s.areas other held);
        unbroken = λ k. rw f unbroken;
      }
  name-sound d (known front y back l o n e f) = go (continues y.box area.box) refl
    where
      here : AreasOf (under p done) (front ++ y ∷ back)
      here = rw l at held

      go : (t : Bool) → continues y.box area.box ≡ t → Sound whole after (name_run_step area s)
      go true c =
          record {
            areas = λ h. rw e (known-keep p done x.count x.word long.0 d front y back n c here);
            unbroken = λ k. rw (f, c) unbroken;
          }
      go false c =
          broken_sound whole after (name_run_step area s) (rw (f, c)) (λ k.
          true≢false (sym (filled-continues p done x.count x.word (written rest) q fresh (ended x.word rest long.2 long.1) long.0 d y.box
          (rw n at (here.filled y (among-right y front (y ∷ back) (inl refl)))) k) ∙ c))

  run_sound : Sound whole after (run_step (length p + 1) (length done + 1) x s)
  unfolding run_step
  run_sound = go (is_dots x.word) refl
    where
      go : (t : Bool) → is_dots x.word ≡ t → Sound whole after (cond t s (name_run_step area s))
      go true d = record { areas = λ h. dots-keep p done x.count x.word s.areas d held; unbroken = λ k. unbroken }
      go false d = name-sound d (found area s.areas)

-- ---- one row

runs_sound : (p q : Picture) (l : List EqualRun) (done : List Word) (column : ℕ) (s : PictureState)
    → Longest l → Fresh done l → column ≡ length done + 1 → s.broken ≡ false → AreasOf (under p done) s.areas
    → Sound (p ++ (done ++ written l) ∷ q) (under p (done ++ written l)) (runs_from (length p + 1) column l s)
unfolding runs_from
runs_sound p q [] done column s long fresh e unbroken held =
    record { areas = λ h. rw append-nil held; unbroken = λ k. unbroken }
runs_sound p q (x ∷ xs) done column s long fresh e unbroken held =
    then _ (under p (done ++ replicate x.count x.word)) _ (run_step (length p + 1) column x s) _
    (rw e (run_sound p q done x xs long fresh s unbroken held))
    (runs_stay (length p + 1) (column + x.count) xs (run_step (length p + 1) column x s))
    (λ h k.
    rw (append_assoc done (replicate x.count x.word) (written xs)) at
    (runs_sound p q xs (done ++ replicate x.count x.word) (column + x.count) (run_step (length p + 1) column x s) long.2
    (fresh-after done x.count x.word xs long.0 long.1)
    (omega (arith, length-append done (replicate x.count x.word), length-replicate x.count x.word)) h k))

row_sound : (p q : Picture) (ws : List Word) (s : PictureState) → s.rows ≡ length p → s.broken ≡ false → AreasOf p s.areas → Sound (p ++ ws ∷ q) (under p ws) (row_step s ws)
unfolding row_step
row_sound p q ws s e unbroken held =
    let h = runs_sound p q (runs_of ws) [] 1 s (runs_longest ws) (none (runs_of ws)) refl unbroken (empty_row p s.areas held) in
    let k = rw (runs_written ws) at h in
    subst (λ (n : ℕ). Sound (p ++ ws ∷ q) (under p ws) (row_counted (length ws) (runs_from (n + 1) 1 (runs_of ws) s))) (sym e)
    (record { areas = k.areas; unbroken = k.unbroken })
  where
    none : (l : List EqualRun) → Fresh [] l
    none [] = tt
    none (x ∷ xs) = λ k. omega (arith, k.0, k.1)

-- ---- all rows

runs_rows : (row column : ℕ) (l : List EqualRun) (s : PictureState) → (runs_from row column l s).rows ≡ s.rows
unfolding runs_from run_step
runs_rows row column [] s = refl
runs_rows row column (x ∷ xs) s = runs_rows row (column + x.count) xs (run_step row column x s) ∙ go (is_dots x.word)
  where
    go : (t : Bool) → (cond t s (name_run_step (record { name = x.word; box = run_box row column x.count }) s)).rows ≡ s.rows
    go true = refl
    go false = refl

pub row_counts : (s : PictureState) (ws : List Word) → (row_step s ws).rows ≡ s.rows + 1
unfolding row_step
row_counts s ws = ap (λ (n : ℕ). n + 1) (runs_rows (s.rows + 1) 1 (runs_of ws) s)

pub rows_sound : (p q : Picture) (s : PictureState) → s.rows ≡ length p → s.broken ≡ false → AreasOf p s.areas → Sound (p ++ q) (p ++ q) (rows_from s q)
unfolding rows_from
rows_sound p [] s e unbroken held = record { areas = λ h. rw append-nil held; unbroken = λ k. unbroken }
rows_sound p (ws ∷ q) s e unbroken held =
    then _ (under p ws) _ (row_step s ws) _ (row_sound p q ws s e unbroken held) (rows_stay q (row_step s ws))
    (λ h k. rw (append_assoc p (ws ∷ []) q) at (rows_sound (under p ws) q (row_step s ws) (omega (arith, e, row_counts s ws, length-append p (ws ∷ []))) h k))

-- ---- names, broken or not

module _ (p : Picture) (done : List Word) (x : EqualRun) (some : 1 ≤ x.count) (s : PictureState) (held : NamesOf (under p done) s.areas) where
  abbrev named-after : Picture
  named-after = under p (done ++ replicate x.count x.word)

  run-named : NamesOf named-after (run_step (length p + 1) (length done + 1) x s).areas
  unfolding run_step
  run-named = go (is_dots x.word) refl
    where
      area : PictureArea
      area = record { name = x.word; box = run_box (length p + 1) (length done + 1) x.count }

      name : is_dots x.word ≡ false → Found area s.areas → NamesOf named-after (drawn area s.areas)
      name d (new other e f) = rw e (new-names p done x.count x.word some d s.areas other held)
      name d (known front y back l o n e f) = rw e (known-names p done x.count x.word some d front y back _ n (rw l at held))

      go : (t : Bool) → is_dots x.word ≡ t → NamesOf named-after (cond t s (name_run_step area s)).areas
      go true d = dots-names p done x.count x.word s.areas d held
      go false d = name d (found area s.areas)

runs_named : (p : Picture) (l : List EqualRun) (done : List Word) (column : ℕ) (s : PictureState)
    → Longest l → column ≡ length done + 1 → NamesOf (under p done) s.areas → NamesOf (under p (done ++ written l)) (runs_from (length p + 1) column l s).areas
unfolding runs_from
runs_named p [] done column s long e held = rw append-nil held
runs_named p (x ∷ xs) done column s long e held =
    rw (append_assoc done (replicate x.count x.word) (written xs)) at
    (runs_named p xs (done ++ replicate x.count x.word) (column + x.count) (run_step (length p + 1) column x s) long.2
    (omega (arith, length-append done (replicate x.count x.word), length-replicate x.count x.word))
    (rw e (run-named p done x long.0 s held)))

row_named : (p : Picture) (ws : List Word) (s : PictureState) → s.rows ≡ length p → NamesOf p s.areas → NamesOf (under p ws) (row_step s ws).areas
unfolding row_step
row_named p ws s e held =
    subst (λ (n : ℕ). NamesOf (under p ws) (runs_from (n + 1) 1 (runs_of ws) s).areas) (sym e)
    (rw (runs_written ws) at (runs_named p (runs_of ws) [] 1 s (runs_longest ws) refl (empty_names p s.areas held)))

pub rows_named : (p q : Picture) (s : PictureState) → s.rows ≡ length p → NamesOf p s.areas → NamesOf (p ++ q) (rows_from s q).areas
unfolding rows_from
rows_named p [] s e held = rw append-nil held
rows_named p (ws ∷ q) s e held =
    rw (append_assoc p (ws ∷ []) q) at
    (rows_named (under p ws) q (row_step s ws) (omega (arith, e, row_counts s ws, length-append p (ws ∷ []))) (row_named p ws s e held))
