-- What a run of a name does to the areas: its name is new, or one of them has it. Assumes nothing.
use mathlib.Core.Path.{◌≡◌, refl, ap}
use mathlib.Core.List.{List, [], ◌∷◌, ◌++◌}
use mathlib.Core.Bool.{Bool, true, false, cond, false≢true}
use mathlib.Core.Logic.{inl, inr}
use lib.Dec.{eqb}
use borrow.Author.Tests.{eqb-true, eq-eqb}
use Rattle.text.specs.Split.{same}
use Rattle.text.proofs.Which.{same_equal, unequal}
use Rattle.picture_rules.specs.Picture.{Box, PictureArea, Among, OtherName}
use Rattle.picture_rules.specs.Steps.{continues, grown, drawn, fits}

pub data Found (run : PictureArea) (l : List PictureArea) : Type 0 where
  new : ((x : PictureArea) → Among x l → OtherName x run) → drawn run l ≡ l ++ (run ∷ []) → fits run l ≡ true → Found run l
  known : (front : List PictureArea) (x : PictureArea) (back : List PictureArea) → l ≡ front ++ x ∷ back → ((z : PictureArea) → Among z front → OtherName z run) → x.name ≡ run.name
      → drawn run l ≡ front ++ grown x run.box ∷ back → fits run l ≡ continues x.box run.box → Found run l

pub found : (run : PictureArea) (l : List PictureArea) → Found run l
unfolding drawn fits
found run [] = new (λ x h. absurd h) refl refl
found run (a ∷ rest) = go (same a.name run.name) refl (found run rest)
  where
    go : (t : Bool) → same a.name run.name ≡ t → Found run rest → Found run (a ∷ rest)
    go true e f = known [] a rest refl (λ x h. absurd h) (same_equal a.name run.name e) (rw e) (rw e)
    go false e (new h d t) = new other (rw e (ap (λ (l : List PictureArea). a ∷ l) d)) (rw e t)
      where
        other : (x : PictureArea) → Among x (a ∷ rest) → OtherName x run
        other x (inl q) = rw (← q) (unequal a.name run.name e)
        other x (inr m) = h x m
    go false e (known front x back s o n d t) = known (a ∷ front) x back (ap (λ (l : List PictureArea). a ∷ l) s) other n (rw e (ap (λ (l : List PictureArea). a ∷ l) d)) (rw e t)
      where
        other : (z : PictureArea) → Among z (a ∷ front) → OtherName z run
        other z (inl q) = rw (← q) (unequal a.name run.name e)
        other z (inr m) = o z m

-- a run continues a box exactly if it begins where the box ends, with the same columns
pub continues_so : (b run : Box) → continues b run ≡ true → (b.rowend ≡ run.rowstart) × (b.columnstart ≡ run.columnstart) × (b.columnend ≡ run.columnend)
continues_so b run h = go (eqb b.rowend run.rowstart) (eqb b.columnstart run.columnstart) refl refl h
  where
    go : (t u : Bool) → eqb b.rowend run.rowstart ≡ t → eqb b.columnstart run.columnstart ≡ u
        → cond t (cond u (eqb b.columnend run.columnend) false) false ≡ true
        → (b.rowend ≡ run.rowstart) × (b.columnstart ≡ run.columnstart) × (b.columnend ≡ run.columnend)
    go true true p q k = (eqb-true _ _ p, eqb-true _ _ q, eqb-true _ _ k)
    go true false p q k = absurd (false≢true k)
    go false u p q k = absurd (false≢true k)

pub continues_if : (b run : Box) → b.rowend ≡ run.rowstart → b.columnstart ≡ run.columnstart → b.columnend ≡ run.columnend → continues b run ≡ true
continues_if b run h i j = rw (eq-eqb b.rowend run.rowstart h, eq-eqb b.columnstart run.columnstart i) (eq-eqb b.columnend run.columnend j)
