-- The runs of a row: written out they are the row, and each is as long as it can be. Assumes nothing.
use Prim.Native.Nat.{suc, ◌≤◌}
use mathlib.Core.Path.{◌≡◌, refl, sym, ap, ◌∙◌}
use mathlib.Core.List.{List, [], ◌∷◌, ◌++◌}
use mathlib.Core.Bool.{Bool, true, false, cond}
use native.Mathlib.Omega.{arith}
use lib.ListN.{drop, replicate}
use Rattle.text.specs.Split.{same}
use Rattle.text.proofs.Which.{same_equal, unequal}
use Rattle.picture_rules.specs.Picture.{Word}
use Rattle.picture_rules.specs.Steps.{EqualRun, with_word, runs_of, again_of, first_run}

-- the words of runs
abbrev pub written : List EqualRun → List Word
written [] = []
written (x ∷ xs) = replicate x.count x.word ++ written xs

-- the first run has another word
abbrev pub Apart : Word → List EqualRun → Type 0
Apart w [] = Unit {0}
Apart w (x ∷ xs) = w ≡ x.word → ⊥

abbrev pub Longest : List EqualRun → Type 0
Longest [] = Unit {0}
Longest (x ∷ xs) = (1 ≤ x.count) × Apart x.word xs × Longest xs

written-joined : (w : Word) (l : List EqualRun) → written (with_word w l) ≡ w ∷ written l
unfolding with_word
written-joined w [] = refl
written-joined w (x ∷ xs) = go (same x.word w) refl
  where
    go : (t : Bool) → same x.word w ≡ t → written (cond t (record { word = w; count = suc x.count } ∷ xs) (record { word = w; count = 1 } ∷ x ∷ xs)) ≡ w ∷ written (x ∷ xs)
    go true e = ap (λ (v : Word). w ∷ (replicate x.count v ++ written xs)) (sym (same_equal x.word w e))
    go false e = refl

pub runs_written : (ws : List Word) → written (runs_of ws) ≡ ws
unfolding runs_of
runs_written [] = refl
runs_written (w ∷ ws) = written-joined w (runs_of ws) ∙ ap (λ (l : List Word). w ∷ l) (runs_written ws)

longest_joined : (w : Word) (l : List EqualRun) → Longest l → Longest (with_word w l)
unfolding with_word
longest_joined w [] h = (omega arith, tt, tt)
longest_joined w (x ∷ xs) h = go (same x.word w) refl
  where
    go : (t : Bool) → same x.word w ≡ t → Longest (cond t (record { word = w; count = suc x.count } ∷ xs) (record { word = w; count = 1 } ∷ x ∷ xs))
    go true e = (omega arith, rw (same_equal x.word w e) at h.1, h.2)
    go false e = (omega arith, λ q. unequal x.word w e (sym q), h)

pub runs_longest : (ws : List Word) → Longest (runs_of ws)
unfolding runs_of
runs_longest [] = tt
runs_longest (w ∷ ws) = longest_joined w (runs_of ws) (runs_longest ws)

-- the first run, and the runs of the words after it
pub runs_first : (w : Word) (ws : List Word) → runs_of (w ∷ ws) ≡ record { word = w; count = first_run (w ∷ ws) } ∷ runs_of (drop (first_run (w ∷ ws)) (w ∷ ws))
unfolding runs_of with_word again_of first_run
runs_first w [] = refl
runs_first w (x ∷ xs) = rw (runs_first x xs) (go (same x w) refl (runs_first x xs))
  where
    go : (t : Bool) → same x w ≡ t → runs_of (x ∷ xs) ≡ record { word = x; count = first_run (x ∷ xs) } ∷ runs_of (drop (first_run (x ∷ xs)) (x ∷ xs))
        → cond t (record { word = w; count = suc (first_run (x ∷ xs)) } ∷ runs_of (drop (again_of x xs) xs)) (record { word = w; count = 1 } ∷ record { word = x; count = first_run (x ∷ xs) } ∷ runs_of (drop (again_of x xs) xs))
        ≡ record { word = w; count = suc (cond t (suc (again_of w xs)) 0) } ∷ runs_of (drop (cond t (suc (again_of w xs)) 0) (x ∷ xs))
    go true e i = ap (λ (v : Word). record { word = w; count = suc (suc (again_of v xs)) } ∷ runs_of (drop (again_of v xs) xs)) (same_equal x w e)
    go false e i = sym (ap (λ (l : List EqualRun). record { word = w; count = 1 } ∷ l) i)
