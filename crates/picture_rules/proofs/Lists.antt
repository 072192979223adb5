-- Areas in a list that is cut: before, at and after one of them. Assumes nothing.
use mathlib.Core.Path.{refl}
use mathlib.Core.List.{List, [], ◌∷◌, ◌++◌}
use mathlib.Core.Logic.{◌⊎◌, inl, inr, ⊎_elim}
use Rattle.picture_rules.specs.Picture.{PictureArea, Among, Pairs}

pub among_left : (a : PictureArea) (l r : List PictureArea) → Among a l → Among a (l ++ r)
among_left a [] r h = absurd h
among_left a (x ∷ l) r (inl e) = inl e
among_left a (x ∷ l) r (inr h) = inr (among_left a l r h)

pub among-right : (a : PictureArea) (l r : List PictureArea) → Among a r → Among a (l ++ r)
among-right a [] r h = h
among-right a (x ∷ l) r h = inr (among-right a l r h)

pub among_cases : (a : PictureArea) (l r : List PictureArea) → Among a (l ++ r) → Among a l ⊎ Among a r
among_cases a [] r h = inr h
among_cases a (x ∷ l) r (inl e) = inl (inl e)
among_cases a (x ∷ l) r (inr h) = ⊎_elim (λ m. inl (inr m)) (λ m. inr m) (among_cases a l r h)

-- one more at the end
pub pairs_more : (R : PictureArea → PictureArea → Type 0) (a : PictureArea) (l : List PictureArea) → ((x : PictureArea) → Among x l → R x a) → Pairs R l → Pairs R (l ++ (a ∷ []))
pairs_more R a [] f h = (λ b m. absurd m, tt)
pairs_more R a (x ∷ l) f h = (later, pairs_more R a l (λ y m. f y (inr m)) h.1)
  where
    later : (b : PictureArea) → Among b (l ++ (a ∷ [])) → R x b
    later b m = ⊎_elim (h.0 b) last (among_cases b l (a ∷ []) m)
      where
        last : Among b (a ∷ []) → R x b
        last (inl e) = rw (← e) (f x (inl refl))
        last (inr n) = absurd n

module _ (R : PictureArea → PictureArea → Type 0) (x : PictureArea) (r : List PictureArea) where
  -- one before x, one after it
  pub pairs-before : (l : List PictureArea) (z : PictureArea) → Pairs R (l ++ x ∷ r) → Among z l → R z x
  pairs-before [] z h m = absurd m
  pairs-before (a ∷ l) z h (inl e) = rw (← e) (h.0 x (among-right x l (x ∷ r) (inl refl)))
  pairs-before (a ∷ l) z h (inr m) = pairs-before l z h.1 m

  pub pairs-after : (l : List PictureArea) (z : PictureArea) → Pairs R (l ++ x ∷ r) → Among z r → R x z
  pairs-after [] z h m = h.0 z m
  pairs-after (a ∷ l) z h m = pairs-after l z h.1 m

  -- another in the place of x
  pub pairs-swap : (y : PictureArea) (l : List PictureArea) → ((z : PictureArea) → R z x → R z y) → ((z : PictureArea) → R x z → R y z) → Pairs R (l ++ x ∷ r) → Pairs R (l ++ y ∷ r)
  pairs-swap y [] f g h = (λ b m. g b (h.0 b m), h.1)
  pairs-swap y (a ∷ l) f g h = (later, pairs-swap y l f g h.1)
    where
      later : (b : PictureArea) → Among b (l ++ y ∷ r) → R a b
      later b m = ⊎_elim (λ n. h.0 b (among_left b l (x ∷ r) n)) rest (among_cases b l (y ∷ r) m)
        where
          rest : Among b (y ∷ r) → R a b
          rest (inl e) = rw (← e) (f a (h.0 x (among-right x l (x ∷ r) (inl refl))))
          rest (inr n) = h.0 b (among-right b l (x ∷ r) (inr n))
