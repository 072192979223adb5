-- The choice between an overlap and the outcome where that is no fault: an accepted sheet has no overlap, and the outcome is its own.
-- Assumes nothing.
use Prim.Native.Nat.{ℕ, ◌+◌}
use mathlib.Core.Path.{◌≡◌, refl}
use mathlib.Core.List.{List, [], ◌∷◌}
use mathlib.Core.Bool.{Bool, true, false, cond}
use native.Mathlib.Omega.{arith}
use lib.Dec.{eqb, ltb}
use lib.ListN.{length}
use borrow.Author.Tests.{eq-eqb, ne_eqb, eqb-true}
use Rattle.text.specs.Split.{split}
use Rattle.panel_tables.specs.View.{PanelView, empty_view}
use Rattle.sheet_rules.specs.declared.Overlap.{Overlap}
use Rattle.sheet_rules.specs.Lines.{shared_at, line_step}
use Rattle.sheet_rules.specs.Sheet.{fold_of, broken_of, display_of, no_overlap, overlap_at, overlap_from, overlap_of, sheet_of}

pub accepted_former : (s : List ℕ) → (sheet_of s).fault ≡ 0 → ((overlap_of s).later ≡ 0) × ((display_of s).fault ≡ 0)
unfolding sheet_of
accepted_former s = go (eqb (overlap_of s).later 0) refl
  where
    go : (t : Bool) → eqb (overlap_of s).later 0 ≡ t → cond t (display_of s).fault 12 ≡ 0 → ((overlap_of s).later ≡ 0) × ((display_of s).fault ≡ 0)
    go true e z = (eqb-true (overlap_of s).later 0 e, z)
    go false e z = absurd (omega arith)

-- nor a broken picture
pub display_former_lem : (s : List ℕ) → (display_of s).fault ≡ 0 → (broken_of s ≡ 0) × ((fold_of s).fault ≡ 0)
unfolding display_of
display_former_lem s = go (eqb (broken_of s) 0) refl
  where
    go : (t : Bool) → eqb (broken_of s) 0 ≡ t → cond t (fold_of s).fault 14 ≡ 0 → (broken_of s ≡ 0) × ((fold_of s).fault ≡ 0)
    go true e z = (eqb-true (broken_of s) 0 e, z)
    go false e z = absurd (omega arith)

-- without one the display call comes to what the lines come to
pub whole-outcome : (s : List ℕ) → broken_of s ≡ 0 → display_of s ≡ fold_of s
unfolding display_of
whole-outcome s e = rw (eq-eqb (broken_of s) 0 e)

-- with one a sheet is refused by 14, at the last row's line
pub broken-refused : (s : List ℕ) → (broken_of s ≡ 0 → ⊥) → ((display_of s).fault ≡ 14) × ((display_of s).line ≡ broken_of s)
unfolding display_of
broken-refused s h = rw (ne_eqb (broken_of s) 0 h) (refl, refl)

-- the view is the lines' either way
pub display_view : (s : List ℕ) → (display_of s).view ≡ (fold_of s).view
unfolding display_of
display_view s = refl

-- without an overlap a sheet comes to what it came to before
pub former_outcome : (s : List ℕ) → (overlap_of s).later ≡ 0 → sheet_of s ≡ display_of s
unfolding sheet_of
former_outcome s e = rw (eq-eqb (overlap_of s).later 0 e)

-- with one it is refused by 12, at the later area's line
pub overlap-refused : (s : List ℕ) → ((overlap_of s).later ≡ 0 → ⊥) → ((sheet_of s).fault ≡ 12) × ((sheet_of s).line ≡ (overlap_of s).line)
unfolding sheet_of
overlap-refused s h = rw (ne_eqb (overlap_of s).later 0 h) (refl, refl)

-- an overlap without a later area is none
from_none : (n : ℕ) (ls : List (List ℕ)) (v : PanelView) → (overlap_from n ls v).later ≡ 0 → overlap_from n ls v ≡ no_overlap
unfolding overlap_from
from_none n [] v z = refl
from_none n (l ∷ []) v z = refl
from_none n (l ∷ m ∷ ls) v z = go (from_none (n + 1) (m ∷ ls) (line_step v (split 9 l)).panel) (eqb (shared_at v (split 9 l)) 0) (eqb (line_step v (split 9 l)).fault 0) z
  where
    rest : Overlap
    rest = overlap_from (n + 1) (m ∷ ls) (line_step v (split 9 l)).panel

    found : Overlap
    found = overlap_at (shared_at v (split 9 l)) (length v.areas) n

    go : (rest.later ≡ 0 → rest ≡ no_overlap) → (t u : Bool) → (cond t (cond u rest no_overlap) found).later ≡ 0 → cond t (cond u rest no_overlap) found ≡ no_overlap
    go h true true y = h y
    go h true false y = refl
    go h false u y = absurd (omega arith)

pub none-overlap : (s : List ℕ) → (overlap_of s).later ≡ 0 → overlap_of s ≡ no_overlap
unfolding overlap_of
none-overlap s = go (ltb 32768 (length s))
  where
    go : (t : Bool) → (cond t no_overlap (overlap_from 1 (split 10 s) empty_view)).later ≡ 0 → cond t no_overlap (overlap_from 1 (split 10 s) empty_view) ≡ no_overlap
    go true z = refl
    go false z = from_none 1 (split 10 s) empty_view z
