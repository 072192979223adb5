-- Where the cells of a sheet's lines stand among its placements. Assumes nothing.
use Prim.Native.Nat.{ℕ, zero, suc, ◌+◌, ◌-◌, ◌<◌}
use mathlib.Core.Path.{◌≡◌, refl, sym, ap, ◌∙◌}
use mathlib.Core.List.{List, [], ◌∷◌, ◌++◌, append_assoc}
use mathlib.Core.Bool.{Bool, true, false, cond, ◌&&◌, true≢false}
use native.Mathlib.Omega.{arith}
use lib.ListN.{length, get_or, length-append}
use Rattle.std.proofs.lemmas.List.{get_or-append-add}
use Rattle.coordinates.specs.declared.axis.Axis.TheVariants.{Column, Row}
use Rattle.text.specs.Split.{same}
use Rattle.text.proofs.Which.{same_equal}
use Rattle.sheet_forms.specs.Words.{at, kind_words}
use Rattle.sheet_forms.specs.Forms.{place, cell, kind_number}
use Rattle.panel_tables.specs.View.{Placement, no_placement}
use Rattle.placement_hits.specs.Steps.{passing}
use Rattle.sheet_rules.specs.Contents.{Line, is_of, placement_in, halves_in, item_in, placements_of, cells_from}
use Rattle.panel_placing.specs.Held.{half_of, cell_of}

-- ---- among placements

-- the cells among placements of which the first has number n
abbrev pub cells_among : ℕ → List Placement → List ℕ
cells_among n [] = []
cells_among n (p ∷ []) = []
cells_among n (p ∷ q ∷ ps) = cond (half_of Column p && half_of Row q) (n ∷ cells_among (n + 1) (q ∷ ps)) (cells_among (n + 1) (q ∷ ps))

-- a test that tells them, of all placements that have another behind them
pub passing_among : (test : ℕ → Bool) (n : ℕ) (ps : List Placement) → ((i : ℕ) → i + 1 < length ps → test (n + i) ≡ cell_of ps i)
    → passing test n (length ps - 1) ≡ cells_among n ps
unfolding passing
passing_among test n [] h = refl
passing_among test n (p ∷ []) h = refl
passing_among test n (p ∷ q ∷ ps) h =
    let e : length (p ∷ q ∷ ps) - 1 ≡ suc (length (q ∷ ps) - 1) = omega arith in
    let z : n ≡ n + 0 = omega arith in
    let first : test n ≡ (half_of Column p && half_of Row q) = ap test z ∙ h 0 (omega arith) in
    rw (e, first, passing_among test (n + 1) (q ∷ ps) next) refl
  where
    next : (i : ℕ) → i + 1 < length (q ∷ ps) → test (n + 1 + i) ≡ cell_of (q ∷ ps) i
    next i k =
        let z : n + 1 + i ≡ n + suc i = omega arith in
        let y : suc i + 1 ≡ suc (i + 1) = omega arith in
        ap test z ∙ h (suc i) (omega arith) ∙ ap (λ (j : ℕ). half_of Column (get_or (q ∷ ps) i no_placement) && half_of Row (get_or (p ∷ q ∷ ps) j no_placement)) y

-- one that is no cell's columns
other_first : (n : ℕ) (p : Placement) (ps : List Placement) → half_of Column p ≡ false → cells_among n (p ∷ ps) ≡ cells_among (n + 1) ps
other_first n p [] e = refl
other_first n p (q ∷ ps) e = rw e refl

-- ---- among lines

-- the cells of lines that have n placements before them, by the number of their columns
abbrev pub starts : ℕ → List Line → List ℕ
starts n [] = []
starts n (l ∷ ls) = cond (is_of cell l) (n ∷ []) [] ++ starts (n + length (item_in l)) ls

-- no line is of both kinds
one_kind : (l : Line) → is_of place l ≡ true → is_of cell l ≡ false
unfolding same
one_kind l e = rw (same_equal (at l 0) (get_or kind_words (kind_number place) []) e)

pub among_starts : (n : ℕ) (ls : List Line) → cells_among n (placements_of ls) ≡ starts n ls
unfolding placements_of
among_starts n [] = refl
among_starts n (l ∷ ls) = go (is_of place l) (is_of cell l) (one_kind l) (λ k. among_starts k ls)
  where
    rest : List Placement
    rest = placements_of ls

    go : (b c : Bool) → (b ≡ true → c ≡ false) → ((k : ℕ) → cells_among k rest ≡ starts k ls)
        → cells_among n (cond b (placement_in l ∷ []) (cond c (halves_in l) []) ++ rest)
        ≡ cond c (n ∷ []) [] ++ starts (n + length (cond b (placement_in l ∷ []) (cond c (halves_in l) []))) ls
    go true true h more = absurd (true≢false (h refl))
    go true false h more = other_first n (placement_in l) rest refl ∙ more (n + 1)
    go false true h more =
        let z : n + 1 + 1 ≡ n + 2 = omega arith in
        ap (λ (x : List ℕ). n ∷ x) (other_first (n + 1) (get_or (halves_in l) 1 no_placement) rest refl ∙ ap (λ (k : ℕ). cells_among k rest) z ∙ more (n + 2))
    go false false h more = let z : n ≡ n + 0 = omega arith in ap (λ (k : ℕ). cells_among k rest) z ∙ more (n + 0)

-- as many as their lines
pub starts_counted : (n m : ℕ) (ls : List Line) → length (starts n ls) ≡ length (cells_from m ls)
unfolding cells_from
starts_counted n m [] = refl
starts_counted n m (l ∷ ls) = go (is_of cell l) (starts_counted (n + length (item_in l)) (m + 1) ls)
  where
    k : ℕ
    k = n + length (item_in l)

    go : (c : Bool) → length (starts k ls) ≡ length (cells_from (m + 1) ls) → length (cond c (n ∷ []) [] ++ starts k ls) ≡ length (cond c (m ∷ []) [] ++ cells_from (m + 1) ls)
    go true e = ap suc e
    go false e = e

-- those of lines before and after one
starts_between : (n : ℕ) (before after : List Line) (l : Line)
    → starts n (before ++ (l ∷ after)) ≡ starts n before ++ (cond (is_of cell l) ((n + length (placements_of before)) ∷ []) [] ++ starts (n + length (placements_of before) + length (item_in l)) after)
unfolding placements_of
starts_between n [] after l = ap (λ (k : ℕ). cond (is_of cell l) (k ∷ []) [] ++ starts (k + length (item_in l)) after) (omega arith)
starts_between n (m ∷ before) after l =
    let first : List ℕ = cond (is_of cell m) (n ∷ []) [] in
    let next : ℕ = n + length (item_in m) in
    let k : next + length (placements_of before) ≡ n + length (item_in m ++ placements_of before) = omega (arith, length-append (item_in m) (placements_of before)) in
    ap (λ (p : List ℕ). first ++ p) (starts_between next before after l)
    ∙ sym (append_assoc first (starts next before) (cond (is_of cell l) ((next + length (placements_of before)) ∷ []) [] ++ starts (next + length (placements_of before) + length (item_in l)) after))
    ∙ ap (λ (i : ℕ). (first ++ starts next before) ++ (cond (is_of cell l) (i ∷ []) [] ++ starts (i + length (item_in l)) after)) k

-- that of a line
pub start_at : (n m : ℕ) (before after : List Line) (l : Line) → is_of cell l ≡ true
    → get_or (starts n (before ++ (l ∷ after))) (length (cells_from m before)) 0 ≡ n + length (placements_of before)
start_at n m before after l e =
    let i : ℕ = n + length (placements_of before) in
    let tail : List ℕ = starts (i + length (item_in l)) after in
    let k : length (cells_from m before) ≡ length (starts n before) + 0 = omega (arith, starts_counted n m before) in
    ap (λ (x : List ℕ). get_or x (length (cells_from m before)) 0) (starts_between n before after l ∙ ap (λ (c : Bool). starts n before ++ (cond c (i ∷ []) [] ++ tail)) e)
    ∙ ap (λ (j : ℕ). get_or (starts n before ++ (i ∷ tail)) j 0) k
    ∙ get_or-append-add (starts n before) (i ∷ tail) 0 0

pub start_held : (n m : ℕ) (before after : List Line) (l : Line) → is_of cell l ≡ true → length (cells_from m before) < length (starts n (before ++ (l ∷ after)))
start_held n m before after l e =
    let i : ℕ = n + length (placements_of before) in
    let tail : List ℕ = starts (i + length (item_in l)) after in
    let z : starts n (before ++ (l ∷ after)) ≡ starts n before ++ (i ∷ tail) = starts_between n before after l ∙ ap (λ (c : Bool). starts n before ++ (cond c (i ∷ []) [] ++ tail)) e in
    omega (arith, ap length z, length-append (starts n before) (i ∷ tail), starts_counted n m before)

-- ---- the line of a cell

-- line k of those that give cells, between the lines before it and those after it
pub record Found (m : ℕ) (ls : List Line) (k : ℕ) : Type 0 where
  pub before : List Line
  pub line : Line
  pub after : List Line
  pub lines : ls ≡ before ++ (line ∷ after)
  pub word : is_of cell line ≡ true
  pub number : length (cells_from m before) ≡ k

pub line_found : (m : ℕ) (ls : List Line) (k : ℕ) → k < length (cells_from m ls) → Found m ls k
unfolding cells_from
line_found m [] k h = absurd (omega arith)
line_found m (l ∷ ls) k h = go (is_of cell l) refl (line_found (m + 1) ls) k h
  where
    go : (c : Bool) → is_of cell l ≡ c → ((i : ℕ) → i < length (cells_from (m + 1) ls) → Found (m + 1) ls i)
        → (k : ℕ) → k < length (cond c (m ∷ []) [] ++ cells_from (m + 1) ls) → Found m (l ∷ ls) k
    go true e more zero h = record { before = []; line = l; after = ls; lines = refl; word = e; number = refl }
    go true e more (suc k) h =
        let f = more k (omega arith) in
        record { before = l ∷ f.before; line = f.line; after = f.after; lines = ap (λ (x : List Line). l ∷ x) f.lines; word = f.word; number = rw e (ap suc f.number) }
    go false e more k h =
        let f = more k h in
        record { before = l ∷ f.before; line = f.line; after = f.after; lines = ap (λ (x : List Line). l ∷ x) f.lines; word = f.word; number = rw e f.number }
