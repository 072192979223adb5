-- The words of an axis of a view: without their entries, and with the direct ones behind others. Assumes nothing.
use Prim.Native.Nat.{ℕ, suc, ◌+◌, ◌≤◌}
use mathlib.Core.Path.{◌≡◌, refl, sym, ap, ◌∙◌}
use mathlib.Core.List.{List, [], ◌∷◌, ◌++◌, append_assoc, append-nil}
use native.Mathlib.Omega.{arith}
use lib.ListN.{length, take, drop, replicate, length-append, length-replicate, replicate-append-replicate}
use lib.Seq.{sets, sets-eq, take_at, drop_at, take-take, take-add, drop-drop}
use Rattle.axis_tables.specs.Lay.{pad, Region, region, lay}
use Rattle.axis_tables.specs.Runs.{part_of}
use Rattle.axis_tables.specs.View.{AxisView}
use Rattle.axis_tables.specs.Written.{regions_of, words_with, axis_words}
use Rattle.axis_tables.proofs.Lays.{length-pad, pad-none, lay-put}
use Rattle.axis_tables.proofs.Fits.{Fits}
use Rattle.axis_tables.proofs.Back.{entries-back}
use Rattle.panel_resized.specs.Axes.{unended_words}

-- ---- regions before a last one

lay-last : (rs : List Region) (r : Region) → lay (rs ++ (r ∷ [])) ≡ lay rs ++ (pad r.room r.held ++ [])
unfolding lay
lay-last [] r = refl
lay-last (s ∷ rs) r =
    ap (λ (l : List ℕ). pad s.room s.held ++ l) (lay-last rs r) ∙ sym (append_assoc (pad s.room s.held) (lay rs) (pad r.room r.held ++ []))

abbrev rooms : List Region → ℕ
rooms [] = 0
rooms (r ∷ rs) = r.room + rooms rs

length-lay : (rs : List Region) → length (lay rs) ≡ rooms rs
unfolding lay
length-lay [] = refl
length-lay (r ∷ rs) = length-append (pad r.room r.held) (lay rs) ∙ omega (arith, length-pad r.room r.held, length-lay rs)

-- zeros behind what was written over their front
zeros-kept : (m n : ℕ) (l : List ℕ) → length l ≡ m → sets (replicate (m + n) 0) 0 l ≡ l ++ replicate n 0
zeros-kept m n l e =
    let h : 0 + length l ≤ length (replicate (m + n) 0) = simp length-replicate (omega arith) in
    let k : length (replicate m 0) ≡ length l = simp length-replicate (sym e) in
    let z : 0 + length l ≡ length l = omega arith in
    sets-eq l (replicate (m + n) 0) 0 h
    ∙ ap (λ (j : ℕ). l ++ drop j (replicate (m + n) 0)) z
    ∙ ap (λ (y : List ℕ). l ++ drop (length l) y) (sym (replicate-append-replicate m n 0))
    ∙ ap (λ (y : List ℕ). l ++ y) (drop_at (replicate m 0) (replicate n 0) (length l) k)

module _ (v : AxisView) where
  -- the regions before the entries
  abbrev before : List Region
  before = take 6 (regions_of v [])

  words-split : (es : List ℕ) → words_with v es ≡ lay before ++ (pad 4096 es ++ [])
  unfolding words_with regions_of
  words-split es = lay-last before (region 4096 es)

  length-before : length (lay before) ≡ 8384
  unfolding regions_of
  length-before = length-lay before

  -- without entries they are those of the view before its end
  pub unended : (es : List ℕ) → unended_words (words_with v es) ≡ axis_words v
  unfolding unended_words
  unended es =
      let h : take 8384 (words_with v es) ≡ lay before = ap (take 8384) (words-split es) ∙ take_at (lay before) (pad 4096 es ++ []) 8384 length-before in
      let n : ◌≡◌ {A = ℕ} 12480 (8384 + 4096) = refl in
      ap (λ (l : List ℕ). sets (replicate 12480 0) 0 l) h
      ∙ ap (λ (k : ℕ). sets (replicate k 0) 0 (lay before)) n
      ∙ zeros-kept 8384 4096 (lay before) length-before
      ∙ ap (λ (l : List ℕ). lay before ++ l) (sym (append-nil (pad 4096 []) ∙ pad-none 4096))
      ∙ sym (words-split [])

  -- entries one after the other behind others
  pub entries-more : (ys es : List ℕ) (p : ℕ) → p ≡ 8384 + length es → length es + length ys ≤ 4096 → sets (words_with v es) p ys ≡ words_with v (es ++ ys)
  unfolding words_with regions_of
  entries-more [] es p q h = rw (append-nil es)
  entries-more (y ∷ ys) es p q h =
      let e : length (es ++ (y ∷ [])) ≡ length es + 1 = length-append es (y ∷ []) in
      ap (λ (w : List ℕ). sets w (suc p) ys) (lay-put (regions_of v es) 6 y (length es) p refl (omega arith) (omega arith))
      ∙ entries-more ys (es ++ (y ∷ [])) (suc p) (omega arith) (omega arith)
      ∙ ap (words_with v) (append_assoc es (y ∷ []) ys)

  -- and those behind others read back
  pub further-back : Fits v → (es ys : List ℕ) → length es + length ys ≤ 4096 → part_of (words_with v (es ++ ys)) (8384 + length es) (length ys) ≡ ys
  further-back f es ys h =
      let w : List ℕ = words_with v (es ++ ys) in
      let x : List ℕ = drop 8384 w in
      let a : ℕ = length es in
      let b : ℕ = length ys in
      let n : length (es ++ ys) ≡ a + b = length-append es ys in
      let k : take (a + b) x ≡ es ++ ys = ap (λ (j : ℕ). take j x) (sym n) ∙ entries-back v f (es ++ ys) (omega (arith, n)) in
      let l : take a x ≡ es = sym (take-take a (a + b) x (omega arith)) ∙ ap (take a) k ∙ take_at es ys a refl in
      ap (take b) (sym (drop-drop a 8384 w))
      ∙ sym (drop_at (take a x) (take b (drop a x)) a (ap length l))
      ∙ ap (drop a) (sym (take-add a b x))
      ∙ ap (drop a) k
      ∙ drop_at es ys a refl
