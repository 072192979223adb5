-- The edge that names make is the first line that bears its name. Assumes nothing.
use native.Mathlib.Omega.{arith}
use mathlib.Core.Path.{◌≡◌, refl, ap}
use mathlib.Core.List.{◌++◌}
use Prim.Native.Nat.{ℕ, zero, suc, ◌≤◌}
use lib.IntN.{pos}
use Rattle.std.specs.Prelude.{Bool, Some, None}
use Rattle.name_rules.specs.Css.{Bytes, AxisNames, Named, Nearest, Side, start, end, suffix}
use Rattle.name_rules.specs.Conditions.{NameLies}
use Rattle.name_rules.specs.Rule.{Seek, at, left, seek, named?, found, or_first}
use Rattle.name_rules.proofs.Counting.{seek_first, seek-none, nearest_same}
use Rattle.name_rules.proofs.Names.{named→, →named}
use lib.Dec.{T}
use Rattle.name_lines.specs.declared.GridAreaEnd.{GridAreaEnd}
use Rattle.name_lines.specs.declared.GridAreaEnd.TheVariants.{Start, End}
use Rattle.panel_areas.specs.Areas.{number_found, edge_number}
use Rattle.panel_areas.specs.Theorem.{EdgeTheorem}

-- what was found
found_number : (k : Seek) (l : ℕ) → number_found k ≡ Some (suc l) → k ≡ at l
found_number (at m) l h = let q : suc m ≡ suc l = cc in ap at (omega (arith, q))
found_number (left m) l h = absurd (cc)

module _ (x : AxisNames) (nm : Bytes) (s : Side) where
  -- the lines of the edge's name, and the search for the first
  abbrev bearing : ℕ → Bool
  bearing l = named? x (nm ++ suffix s) (suc l)

  abbrev sought : Seek
  sought = seek bearing 20000 0 0

  first-of : (l : ℕ) → number_found sought ≡ Some (suc l) → Nearest (λ k. Named x (nm ++ suffix s) (suc k)) 0 l
  first-of l h =
      nearest_same (λ k. T (bearing k)) (λ k. Named x (nm ++ suffix s) (suc k)) (λ k. named→ x (nm ++ suffix s) (suc k)) (λ k. →named x (nm ++ suffix s) (suc k)) 0 l
      (seek_first bearing 20000 0 l (found_number sought l h))

  none-of : x.explicit ≤ 10000 → NameLies x (nm ++ suffix s) → number_found sought ≡ None → (k : ℕ) → Named x (nm ++ suffix s) (suc k) → ⊥
  none-of small lies h k n = go sought refl h
    where
      go : (r : Seek) → sought ≡ r → number_found r ≡ None → ⊥
      go (at l) e f = absurd (cc)
      go (left r) e f = seek-none bearing 20000 0 r e k (omega arith) (omega (arith, lies k n)) (→named x (nm ++ suffix s) (suc k) n)

  placed-at : (l : ℕ) → number_found sought ≡ Some (suc l) → found x.explicit (named? x) nm s (pos zero) ≡ pos l
  placed-at l h = ap (or_first x.explicit (named? x) nm) (found_number sought l h)

pub edge-theorem : (x : AxisNames) (nm : Bytes) (e : GridAreaEnd) → EdgeTheorem x nm e
unfolding edge_number
edge-theorem x nm Start = record { first = first-of x nm start; none = none-of x nm start; placed = placed-at x nm start }
edge-theorem x nm End = record { first = first-of x nm end; none = none-of x nm end; placed = placed-at x nm end }
