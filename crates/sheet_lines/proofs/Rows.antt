-- The record of a `row` line, by its number of words and their fault. Assumes nothing.
use Prim.Native.Nat.{ℕ, ◌-◌, ◌≤◌}
use mathlib.Core.Path.{◌≡◌}
use mathlib.Core.List.{List}
use native.Mathlib.Omega.{arith}
use lib.ListN.{length, drop, length-drop}
use borrow.Author.Tests.{eq-eqb, ne_eqb, lt-ltb, le-ltb}
use Rattle.sheet_forms.specs.Said.{Fault, PictureRow}
use Rattle.sheet_forms.specs.Fields.{row_fault}
use Rattle.sheet_forms.specs.Records.{row_line}
use Rattle.sheet_forms.proofs.WordRows.{row_bounded}

module _ (fs : List (List ℕ)) (n : ℕ) (count : n ≡ length (drop 1 fs)) where
  pub row-none : n ≡ 0 → Fault 1 ≡ row_line fs
  unfolding row_line
  row-none e = rw (lt-ltb (length fs) 2 (omega (arith, length-drop 1 fs)))

  module _ (some : n ≡ 0 → ⊥) (f : ℕ) (fault : f ≡ row_fault (drop 1 fs)) where
    fields : 2 ≤ length fs
    fields = go (length-drop 1 fs)
      where
        go : length (drop 1 fs) ≡ length fs - 1 → 2 ≤ length fs
        go e = omega (arith, some)

    pub row-bad : (f ≡ 0 → ⊥) → Fault f ≡ row_line fs
    unfolding row_line
    row-bad h = rw (le-ltb (length fs) 2 fields, ← fault, ne_eqb f 0 h)

    pub row-good : f ≡ 0 → PictureRow n ≡ row_line fs
    unfolding row_line
    row-good e = rw (le-ltb (length fs) 2 fields, ← fault, eq-eqb f 0 e, count)

    pub row-few : f ≡ 0 → n ≤ 10000
    row-few e = omega (arith, (row_bounded fs fields (rw (← fault) e)).few)
