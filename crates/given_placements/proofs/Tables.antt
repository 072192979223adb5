-- The turns of the loops over placements by argument. Assumes nothing.
use Prim.Native.Nat.{ℕ, ◌+◌, ◌-◌, ◌≤◌, ◌<◌}
use mathlib.Core.Path.{◌≡◌}
use mathlib.Core.Bool.{true, false}
use mathlib.Core.List.{List}
use native.Mathlib.Numerals.{add-one}
use borrow.Author.Tests.{lt-ltb, le-ltb, ne_eqb}
use lib.ListN.{length, get_or, drop, drop_of_length-le}
use lib.Seq.{drop-cons}
use Rattle.coordinates.specs.declared.refusal.Fault.{Fault}
use Rattle.coordinates.specs.Refusals.{number_of}
use Rattle.coordinates.proofs.Faults.{fault_some}
use Rattle.name_rules.specs.Css.{Bytes}
use Rattle.panel_tables.specs.declared.Panel.{Panel}
use Rattle.panel_tables.specs.Areas.{put}
use Rattle.given_placements.specs.declared.GivenPlacement.{GivenPlacement}
use Rattle.given_placements.specs.Given.{own_bytes, names_missing, names_after, put_given, put_from}

-- ---- after the last
module _ (gs : List GivenPlacement) (i : ℕ) (past : length gs ≤ i) where
  pub missing-none : (left : ℕ) → names_missing left (drop i gs) ≡ false
  unfolding names_missing
  missing-none left = rw (drop_of_length-le gs past)

  pub put-none : (p : Panel) (w b : List ℕ) (names : Bytes)
      → record { number = 0; index = 0; placements = p.grid.placements; words = w; bytes = b } ≡ put_from p w b names i (drop i gs)
  unfolding put_from
  put-none p w b names = rw (drop_of_length-le gs past)

-- ---- placement i
module _ (gs : List GivenPlacement) (i : ℕ) (other : GivenPlacement) (h : i < length gs) where
  abbrev g : GivenPlacement
  g = get_or gs i other

  pub missing-here : (left own : ℕ) → own ≡ own_bytes g → left < own → names_missing left (drop i gs) ≡ true
  unfolding names_missing
  missing-here left own e few = rw (drop-cons gs i other h, ← e, lt-ltb left own few)

  pub missing-after : (left own : ℕ) → own ≡ own_bytes g → own ≤ left → names_missing (left - own) (drop (i + 1) gs) ≡ names_missing left (drop i gs)
  unfolding names_missing
  missing-after left own e room = rw (add-one i, drop-cons gs i other h, ← e, le-ltb left own room)

  module _ (p : Panel) (w b : List ℕ) (names : Bytes) (words bytes : List ℕ) where
    pub put-refused : (fault : Fault) → record { answer = put (number_of fault) p; words = words; bytes = bytes } ≡ put_given p w b g names
        → record { number = number_of fault; index = i; placements = 0; words = words; bytes = bytes } ≡ put_from p w b names i (drop i gs)
    unfolding put_from
    put-refused fault e = rw (drop-cons gs i other h, ← e, ne_eqb (number_of fault) 0 (fault_some fault))

    pub put-after : (after : Panel) (rest : Bytes) → record { answer = put 0 after; words = words; bytes = bytes } ≡ put_given p w b g names → rest ≡ names_after g names
        → put_from after words bytes rest (i + 1) (drop (i + 1) gs) ≡ put_from p w b names i (drop i gs)
    unfolding put_from
    put-after after rest e f = rw (add-one i, drop-cons gs i other h, ← e, f)
