-- Laws of `sets` from a place on.
use Prim.Native.Nat.{ℕ, ◌+◌, ◌≤◌, ◌<◌}
use mathlib.Core.Path.{◌≡◌}
use mathlib.Core.List.{List}
use native.Mathlib.Numerals.{add-one}
use lib.ListN.{length, get_or, drop, set, drop_of_length-le}
use lib.Seq.{drop-cons, sets}

module _ (d s : List ℕ) (o j : ℕ) where
  pub sets_next : j < length s → sets d o (drop j s) ≡ sets (set d o (get_or s j 0)) (o + 1) (drop (j + 1) s)
  sets_next h = rw (drop-cons s j 0 h, add-one j, add-one o)

  pub sets_end : length s ≤ j → sets d o (drop j s) ≡ d
  sets_end h = rw (drop_of_length-le s h)
