-- A copy of the bytes of a store that an entry reaches. Assumes nothing.
use Prim.Native.Nat.{ℕ, ◌≤◌, ◌<◌, min}
use mathlib.Core.Path.{◌≡◌, sym, ap, ◌∙◌}
use mathlib.Core.List.{List, ◌++◌}
use mathlib.Core.Logic.{⊎_elim}
use native.Mathlib.Omega.{arith}
use lib.ListN.{length, take, drop, length-take}
use lib.Seq.{take_at, take_all}
use Rattle.coordinates.proofs.Lines.{lt_or_ge}
use Rattle.panel_trial.specs.Stores.{reached, Copied}

-- as many bytes of a store as are reached
part_reached : (store : List ℕ) (count : ℕ) → count ≡ min (length store) 65790 → take count store ≡ reached store
unfolding reached
part_reached store count e = ⊎_elim short long (lt_or_ge (length store) 65790)
  where
    short : length store < 65790 → take count store ≡ take 65790 store
    short h = take_all count store (omega arith) ∙ sym (take_all 65790 store (omega arith))

    long : 65790 ≤ length store → take count store ≡ take 65790 store
    long h = let z : count ≡ 65790 = omega arith in rw z

pub copied : (store lent : List ℕ) (count : ℕ) → count ≡ min (length store) 65790 → Copied store (take count store ++ drop count lent) count
copied store lent count e =
    let many : length (take count store) ≡ count = let m = length-take count store in omega arith in
    record {
      counted = e;
      same = take_at (take count store) (drop count lent) count many ∙ part_reached store count e;
    }

-- a copy is as long as what is copied, and what as many bytes are changed to is read there
pub after_read : (store copy after : List ℕ) (count : ℕ) → Copied store copy count → length after ≡ length (take count copy) → take count (after ++ drop count copy) ≡ after
unfolding reached
after_read store copy after count c same = take_at after (drop count copy) count (omega (arith, same, ap length c.same, length-take 65790 store, c.counted))
