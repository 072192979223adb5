-- When names are the same bytes. Assumes nothing.
use mathlib.Core.Path.{◌≡◌, refl, ap}
use mathlib.Core.Bool.{Bool, true, ◌&&◌}
use mathlib.Core.List.{List, [], ◌∷◌}
use Prim.Native.Nat.{ℕ}
use native.Mathlib.Omega.{arith}
use borrow.Author.Tests.{eq-eqb, eqb-true}
use lib.Dec.{eqb}
use lib.ListN.{length}
use Rattle.std.specs.List.{list_all, zip}
use Rattle.name_rules.specs.Rule.{eq_bytes}
use Rattle.std.proofs.lemmas.Bool.{and_parts}

-- the same bytes are the same name
pub same_sound : (a b : List ℕ) → eq_bytes a b ≡ true → a ≡ b
same_sound [] [] e = refl
same_sound [] (y ∷ b) e = absurd (let z : ◌≡◌ {A = ℕ} 0 1 = cc in omega arith)
same_sound (x ∷ a) [] e = absurd (let z : ◌≡◌ {A = ℕ} 0 1 = cc in omega arith)
same_sound (x ∷ a) (y ∷ b) e =
    let p = and_parts (eqb x y) (eq_bytes a b) e in
    let h : x ≡ y = eqb-true x y p.0 in
    let t : a ≡ b = same_sound a b p.1 in
    cc

pub same_refl : (a : List ℕ) → eq_bytes a a ≡ true
same_refl [] = refl
same_refl (x ∷ a) = rw (eq-eqb x x refl, same_refl a)

-- names of one length are the same where all their bytes are, one beside the other
pub same_pairs : (a b : List ℕ) → length a ≡ length b → list_all (λ p. eqb p.0 p.1) (zip a b) ≡ eq_bytes a b
same_pairs [] [] h = refl
same_pairs [] (y ∷ b) h = absurd (omega arith)
same_pairs (x ∷ a) [] h = absurd (omega arith)
same_pairs (x ∷ a) (y ∷ b) h = ap (λ (t : Bool). eqb x y && t) (same_pairs a b (omega arith))
