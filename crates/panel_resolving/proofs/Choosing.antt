-- Placements that are written axis by axis are those that are written one after the other. Assumes nothing.
use Prim.Native.Nat.{ℕ, zero, suc, ◌+◌, ◌*◌, ◌-◌, ◌≤◌, ◌<◌}
use mathlib.Core.Path.{◌≡◌, refl, sym, ap, ◌∙◌}
use mathlib.Core.Bool.{Bool, true, false, cond, not}
use mathlib.Core.List.{List, [], ◌∷◌, ◌++◌}
use native.Mathlib.Omega.{arith}
use borrow.Author.Tests.{lt-ltb, le-ltb}
use lib.Dec.{eqb}
use lib.IntN.{ℤ}
use lib.ListN.{length, set}
use lib.Seq.{sets, set_comm}
use denote.Enum.Declared.{tag_of}
use Rattle.coordinates.specs.contracts.axis.Axis.{the_type}
use Rattle.coordinates.specs.declared.axis.Axis.{Axis}
use Rattle.coordinates.specs.declared.axis.Axis.TheVariants.{Column, Row}
use Rattle.name_lines.proofs.Suffixes.{never}
use Rattle.name_lines.specs.Areas.{axis_names}
use Rattle.name_resolver.specs.Placements.{resolution_of}
use Rattle.axis_tables.specs.Runs.{part_of}
use Rattle.panel_tables.specs.declared.Grid.{Grid}
use Rattle.panel_tables.specs.declared.PlacementPlace.{PlacementPlace}
use Rattle.coordinates.specs.Axes.{axis_number}
use Rattle.panel_tables.specs.Placements.{placement_at}
use Rattle.panel_rules.specs.Calls.{NameTables, NamedWords, entry_words_in, names_in, shorter_store}
use Rattle.panel_rules.specs.Placing.{resolve_placement}
use Rattle.library_numbers.specs.declared.PlacementNumbers.{PlacementNumbers}
use Rattle.library_numbers.specs.Answers.{placement_numbers}
use Rattle.panel_resolving.specs.declared.axis_run.Run.{Run}
use Rattle.panel_resolving.specs.Chosen.{chosen_sets, on_axis, numbers_by, IsRunOf}
use Rattle.panel_resolving.specs.Placements.{numbers_of, run_numbers}
use Rattle.panel_resolving.proofs.Numbers.{put_on}

-- axes are the same where their numbers are
pub same-axis : (a b : Axis) → eqb (tag_of the_type a) (tag_of the_type b) ≡ eqb (axis_number a) (axis_number b)
same-axis Column Column = refl
same-axis Column Row = refl
same-axis Row Column = refl
same-axis Row Row = refl

-- ---- one more in the loop

-- the first placement of a run
pub first_of_lem : (first i : ℕ) → i + 1 ≡ 1 → first + i ≡ first
first_of_lem first i e = omega (arith, e)

-- the first placement, chosen or not
one_more_lem : (chosen : ℕ → Bool) (numbers : ℕ → List ℤ) (p f n : ℕ) (xs : List ℤ) (b : Bool) → chosen f ≡ b
    → chosen_sets chosen numbers p f (suc n) xs ≡ chosen_sets chosen numbers (p + 8) (f + 1) n (cond b (sets xs p (numbers f)) xs)
unfolding chosen_sets
one_more_lem chosen numbers p f n xs b e = ap (λ (t : Bool). chosen_sets chosen numbers (p + 8) (f + 1) n (cond t (sets xs p (numbers f)) xs)) e

-- what is still to be written when k placements are passed
abbrev pub rest_of : (ℕ → Bool) → (ℕ → List ℤ) → ℕ → ℕ → ℕ → List ℤ → List ℤ
rest_of chosen numbers first count k xs = chosen_sets chosen numbers (8 * k) (first + k) (count - k) xs

module _ (chosen : ℕ → Bool) (numbers : ℕ → List ℤ) (first count i : ℕ) (lent : List ℤ) where
  abbrev rest : ℕ → List ℤ → List ℤ
  rest k xs = rest_of chosen numbers first count k xs

  pub rest-none : rest 0 lent ≡ chosen_sets chosen numbers 0 first count lent
  rest-none = let a : first + 0 ≡ first = omega arith in let b : count - 0 ≡ count = omega arith in rw (a, b)

  pub rest_all : count ≤ i → rest i lent ≡ lent
  unfolding chosen_sets
  rest_all h = let e : count - i ≡ 0 = omega arith in rw e

  -- the next is one of the axis
  pub rest-taken : i < count → chosen (first + i) ≡ true → (after : List ℤ) → after ≡ sets lent (8 * i) (numbers (first + i)) → rest (i + 1) after ≡ rest i lent
  rest-taken h c after e =
      let n : count - i ≡ suc (count - (i + 1)) = omega arith in
      let p : 8 * (i + 1) ≡ 8 * i + 8 = omega arith in
      let f : first + (i + 1) ≡ first + i + 1 = omega arith in
      rw (n, p, f, e) (sym (one_more_lem chosen numbers (8 * i) (first + i) (count - (i + 1)) lent true c))

  -- or is not
  pub rest-passed : i < count → chosen (first + i) ≡ false → rest (i + 1) lent ≡ rest i lent
  rest-passed h c =
      let n : count - i ≡ suc (count - (i + 1)) = omega arith in
      let p : 8 * (i + 1) ≡ 8 * i + 8 = omega arith in
      let f : first + (i + 1) ≡ first + i + 1 = omega arith in
      rw (n, p, f) (sym (one_more_lem chosen numbers (8 * i) (first + i) (count - (i + 1)) lent false c))

-- ---- two axes

-- numbers at other places
set_sets : (b : List ℤ) (xs : List ℤ) (q i : ℕ) (a : ℤ) → i < q → set (sets xs q b) i a ≡ sets (set xs i a) q b
set_sets [] xs q i a h = refl
set_sets (v ∷ b) xs q i a h = set_sets b (set xs q v) (suc q) i a (omega arith) ∙ ap (λ (ys : List ℤ). sets ys (suc q) b) (set_comm xs q i v a (λ e. omega arith))

sets_sets : (a b : List ℤ) (xs : List ℤ) (p q : ℕ) → p + length a ≤ q → sets (sets xs q b) p a ≡ sets (sets xs p a) q b
sets_sets [] b xs p q h = refl
sets_sets (v ∷ a) b xs p q h = ap (λ (ys : List ℤ). sets ys (suc p) a) (set_sets b xs q p v (omega arith)) ∙ sets_sets a b (set xs p v) (suc p) q (omega arith)

module _ (chosen : ℕ → Bool) (answer : ℕ → PlacementNumbers) where
  abbrev eight : ℕ → List ℤ
  eight i = numbers_of (answer i)

  -- numbers before those that are written
  earlier : (n : ℕ) (m : PlacementNumbers) (xs : List ℤ) (p q first : ℕ) → p + 8 ≤ q
      → sets (chosen_sets chosen eight q first n xs) p (numbers_of m) ≡ chosen_sets chosen eight q first n (sets xs p (numbers_of m))
  unfolding chosen_sets
  earlier zero m xs p q first h = refl
  earlier (suc n) m xs p q first h =
      earlier n m (cond (chosen first) (sets xs q (eight first)) xs) p (q + 8) (first + 1) (omega arith)
      ∙ ap (λ (ys : List ℤ). chosen_sets chosen eight (q + 8) (first + 1) n ys) (go (chosen first))
    where
      go : (t : Bool) → sets (cond t (sets xs q (eight first)) xs) p (numbers_of m) ≡ cond t (sets (sets xs p (numbers_of m)) q (eight first)) (sets xs p (numbers_of m))
      go true = sets_sets (numbers_of m) (eight first) xs p q (omega arith)
      go false = refl

  module _ (other : ℕ → Bool) (opposite : (i : ℕ) → other i ≡ not (chosen i)) where
    -- all numbers from one on
    abbrev all : ℕ → ℕ → List ℤ
    all first zero = []
    all first (suc n) = eight first ++ all (first + 1) n

    both : (n : ℕ) (xs : List ℤ) (p first : ℕ) → chosen_sets other eight p first n (chosen_sets chosen eight p first n xs) ≡ sets xs p (all first n)
    unfolding chosen_sets
    both zero xs p first = refl
    both (suc n) xs p first = rw (opposite first) (go (chosen first) (λ ys. both n ys (p + 8) (first + 1)))
      where
        go : (t : Bool) → ((ys : List ℤ) → chosen_sets other eight (p + 8) (first + 1) n (chosen_sets chosen eight (p + 8) (first + 1) n ys) ≡ sets ys (p + 8) (all (first + 1) n))
            → chosen_sets other eight (p + 8) (first + 1) n (cond (not t) (sets (chosen_sets chosen eight (p + 8) (first + 1) n (cond t (sets xs p (eight first)) xs)) p (eight first)) (chosen_sets chosen eight (p + 8) (first + 1) n (cond t (sets xs p (eight first)) xs)))
            ≡ sets xs p (eight first ++ all (first + 1) n)
        go true rec = rec (sets xs p (eight first)) ∙ sym (put_on xs p (answer first) (all (first + 1) n))
        go false rec =
            ap (λ (ys : List ℤ). chosen_sets other eight (p + 8) (first + 1) n ys) (earlier n (answer first) xs p (p + 8) (first + 1) (omega arith))
            ∙ rec (sets xs p (eight first)) ∙ sym (put_on xs p (answer first) (all (first + 1) n))

-- the same numbers of those that are chosen
alike : (chosen : ℕ → Bool) (f g : ℕ → List ℤ) (n : ℕ) (xs : List ℤ) (p first : ℕ)
    → ((i : ℕ) → first ≤ i → i < first + n → chosen i ≡ true → f i ≡ g i) → chosen_sets chosen f p first n xs ≡ chosen_sets chosen g p first n xs
unfolding chosen_sets
alike chosen f g zero xs p first h = refl
alike chosen f g (suc n) xs p first h =
    ap (λ (ys : List ℤ). chosen_sets chosen f (p + 8) (first + 1) n ys) (go (chosen first) refl)
    ∙ alike chosen f g n (cond (chosen first) (sets xs p (g first)) xs) (p + 8) (first + 1) (λ i a b c. h i (omega arith) (omega arith) c)
  where
    go : (t : Bool) → chosen first ≡ t → cond t (sets xs p (f first)) xs ≡ cond t (sets xs p (g first)) xs
    go true e = ap (λ (a : List ℤ). sets xs p a) (h first (omega arith) (omega arith) e)
    go false e = refl

-- ---- the placements of a panel

module _ (p : Grid) (t : NameTables) (areas placements : NamedWords) where
  abbrev answers : ℕ → PlacementNumbers
  answers i = placement_numbers (resolve_placement p t areas placements i)

  abbrev axis_numbers : Axis → ℕ → List ℤ
  axis_numbers a = numbers_by (resolution_of (names_in p t areas a) placements.bytes) placements.words

  -- an axis by its number
  same_axis_lem : (a b : Axis) → eqb (axis_number a) (axis_number b) ≡ true → a ≡ b
  same_axis_lem Column Column h = refl
  same_axis_lem Column Row h = never h
  same_axis_lem Row Column h = never h
  same_axis_lem Row Row h = refl

  -- every placement is of the columns or of the rows
  rows-else : (i : ℕ) → on_axis Row placements.words i ≡ not (on_axis Column placements.words i)
  rows-else i = go (placement_at placements.words i).axis
    where
      go : (a : Axis) → eqb (axis_number a) 1 ≡ not (eqb (axis_number a) 0)
      go Column = refl
      go Row = refl

  -- a placement of an axis beside its names
  axis-answer : (a : Axis) (i : ℕ) → i < p.placements → 32768 ≤ shorter_store t → on_axis a placements.words i ≡ true → axis_numbers a i ≡ numbers_of (answers i)
  unfolding resolve_placement
  axis-answer a i h k e =
      let place : PlacementPlace = placement_at placements.words i in
      rw (lt-ltb i p.placements h, le-ltb (shorter_store t) 32768 k, sym (same_axis_lem place.axis a e))

  module _ (first count : ℕ) (lent : List ℤ) (h : first + count ≤ p.placements) (k : 32768 ≤ shorter_store t) where
    one_axis : (a : Axis) (xs : List ℤ) → chosen_sets (on_axis a placements.words) (axis_numbers a) 0 first count xs
        ≡ chosen_sets (on_axis a placements.words) (λ (i : ℕ). numbers_of (answers i)) 0 first count xs
    one_axis a xs = alike (on_axis a placements.words) (axis_numbers a) (λ (i : ℕ). numbers_of (answers i)) count xs 0 first (λ i l b c. axis-answer a i (omega arith) k c)

    -- the numbers one after the other
    run-all : (n f : ℕ) → all (on_axis Column placements.words) answers (on_axis Row placements.words) rows-else f n ≡ run_numbers p t areas placements f n
    unfolding run_numbers
    run-all zero f = refl
    run-all (suc n) f = ap (λ (l : List ℤ). numbers_of (answers f) ++ l) (run-all n (f + 1))

    -- those of the columns, then those of the rows
    pub both-axes : chosen_sets (on_axis Row placements.words) (axis_numbers Row) 0 first count (chosen_sets (on_axis Column placements.words) (axis_numbers Column) 0 first count lent)
        ≡ sets lent 0 (run_numbers p t areas placements first count)
    both-axes =
        one_axis Row (chosen_sets (on_axis Column placements.words) (axis_numbers Column) 0 first count lent)
        ∙ ap (λ (xs : List ℤ). chosen_sets (on_axis Row placements.words) (λ (i : ℕ). numbers_of (answers i)) 0 first count xs) (one_axis Column lent)
        ∙ both (on_axis Column placements.words) answers (on_axis Row placements.words) rows-else count lent 0 first
        ∙ ap (λ (l : List ℤ). sets lent 0 l) (run-all count first)

    -- what the two runs leave, one after the other
    pub axes-written : (columns rows : Run) (column_words row_words : List ℕ) (middle after : List ℤ)
        → IsRunOf Column p.columns.size.explicit p.areas first count columns → column_words ≡ entry_words_in p.columns t.columns
        → IsRunOf Row p.rows.size.explicit p.areas first count rows → row_words ≡ entry_words_in p.rows t.rows
        → middle ≡ chosen_sets (on_axis columns.around.axis placements.words)
        (numbers_by (resolution_of (axis_names columns.around.explicit columns.around.axis column_words t.column_store (part_of areas.words 0 columns.around.areas) (part_of areas.words 64 columns.around.areas) areas.bytes) placements.bytes) placements.words)
        0 columns.first columns.count lent
        → after ≡ chosen_sets (on_axis rows.around.axis placements.words)
        (numbers_by (resolution_of (axis_names rows.around.explicit rows.around.axis row_words t.row_store (part_of areas.words 0 rows.around.areas) (part_of areas.words 64 rows.around.areas) areas.bytes) placements.bytes) placements.words)
        0 rows.first rows.count middle
        → after ≡ sets lent 0 (run_numbers p t areas placements first count)
    axes-written columns rows column_words row_words middle after a b d e f g =
        (rw (d.around, d.first, d.count, e) at g)
        ∙ ap (λ (xs : List ℤ). chosen_sets (on_axis Row placements.words) (axis_numbers Row) 0 first count xs) (rw (a.around, a.first, a.count, b) at f)
        ∙ both-axes
