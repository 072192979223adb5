-- Texts that a text begins with, one after the other, and a text that is written at a place. Assumes nothing.
use Prim.Native.Nat.{ℕ, ◌+◌, ◌-◌, ◌≤◌}
use mathlib.Core.Path.{◌≡◌, refl, sym, ap, ◌∙◌}
use mathlib.Core.List.{List, [], ◌∷◌, ◌++◌}
use mathlib.Core.Bool.{Bool, true, false, cond}
use native.Mathlib.Omega.{arith}
use lib.Dec.{eqb}
use lib.ListN.{length, take, drop, drop_of_length-le}
use lib.Seq.{drop-drop, sets}
use Rattle.text.specs.Split.{same}
use Rattle.std.proofs.lemmas.List.Edits.{sets-eq}
use borrow.Rule.Slice.PartMut.{put_mid}
use Rattle.std.proofs.Common.{append_assoc}
use Rattle.std.proofs.lemmas.List.{append-nil}

-- two texts, one after the other
pub stands-append : (t u d : List ℕ)
    → same (take (length (t ++ u)) d) (t ++ u) ≡ cond (same (take (length t) d) t) (same (take (length u) (drop (length t) d)) u) false
unfolding same
stands-append [] u d = refl
stands-append (x ∷ t) u [] = refl
stands-append (x ∷ t) u (y ∷ d) = go (eqb y x) (stands-append t u d)
  where
    go : (b : Bool) → same (take (length (t ++ u)) d) (t ++ u) ≡ cond (same (take (length t) d) t) (same (take (length u) (drop (length t) d)) u) false
        → cond b (same (take (length (t ++ u)) d) (t ++ u)) false ≡ cond (cond b (same (take (length t) d) t) false) (same (take (length u) (drop (length t) d)) u) false
    go true i = i
    go false i = refl

-- a text that is set over as many bytes takes their place
pub sets_over : (b text : List ℕ) → length b ≡ length text → sets b 0 text ≡ text
sets_over b text h =
    let none : drop (0 + length text) b ≡ [] = drop_of_length-le b {i = 0 + length text} (omega (arith, h)) in
    sets-eq text b 0 (omega (arith, h)) ∙ ap (λ (rest : List ℕ). text ++ rest) none ∙ append-nil text

-- a text put at once
pub text-put : (b put text : List ℕ) (p : ℕ) → put ≡ text → p + length text ≤ length b → put_mid p (p + length text - p) b put ≡ sets b p text
text-put b put text p e k =
    let n : p + length text - p ≡ length text = omega arith in
    rw (e, n, drop-drop (length text) p b) (sym (append_assoc (take p b) text (drop (p + length text) b)) ∙ sym (sets-eq text b p k))
