-- An end by argument that is not refused fits the tables, and its number is in the range of its kind. Assumes nothing.
use Prim.Native.Nat.{ℕ, zero, suc, ◌≤◌}
use mathlib.Core.Path.{◌≡◌, refl}
use mathlib.Core.Bool.{Bool, true, false, cond, not, ◌&&◌, ◌||◌, true≢false}
use mathlib.Core.List.{List}
use native.Mathlib.Omega.{arith}
use borrow.Author.Tests.{ltb-false, le-ltb}
use lib.Dec.{ltb}
use lib.IntN.{ℤ, pos, negsuc}
use lib.ListN.{length}
use Rattle.coordinates.specs.Refusals.{name, count}
use Rattle.name_entries.specs.Names.{is_name}
use Rattle.name_entries.proofs.Graphic.{name-length}
use Rattle.panel_tables.specs.View.{End, number_outside}
use Rattle.panel_tables.specs.Placements.{uses_name}
use Rattle.panel_tables.proofs.Fits.{GoodEnd, GoodPlacement}
use Rattle.name_rules.specs.Css.{Bytes}
use Rattle.panel_rules.specs.Ranges.{IsIndex, IsSpan, EndRange, PlacementRange}
use Rattle.given_placements.specs.declared.GivenPlacement.{GivenPlacement}
use Rattle.given_placements.specs.Ends.{index_outside, span_outside, outside_of, is_outside, is_unnamed, given_fault, used_end}
use Rattle.given_placements.specs.Given.{start_given, end_given, fault_given}
use Rattle.given_placements.specs.Theorem.{placement_given}

-- ---- numbers
index-inside : (z : ℤ) → index_outside z ≡ false → number_outside z ≡ false
index-inside (pos n) e = le-ltb 65535 n (omega (arith, ltb-false 32767 n e))
index-inside (negsuc k) e = e

index-range : (z : ℤ) → index_outside z ≡ false → IsIndex z
index-range (pos n) e = ltb-false 32767 n e
index-range (negsuc k) e = ltb-false 32767 k e

span-inside : (z : ℤ) → span_outside z ≡ false → number_outside z ≡ false
span-inside (pos n) e = e
span-inside (negsuc k) e = absurd (true≢false e)

span-range : (z : ℤ) → span_outside z ≡ false → IsSpan z
span-range (pos n) e = ltb-false 65535 n e
span-range (negsuc k) e = absurd (true≢false e)

-- ---- an end
short-name : (nm : List ℕ) → not (is_name nm) ≡ false → length nm ≤ 32
short-name nm e = name-length nm (named (is_name nm) e)
  where
    named : (b : Bool) → not b ≡ false → b ≡ true
    named true e = refl
    named false e = absurd (true≢false e)

abbrev end : ℕ → ℤ → List ℕ → End
end k z nm = record { end = record { kind = k; number = z }; name = nm }

end-good : (k : ℕ) (z : ℤ) (nm : List ℕ) → (uses_name k && not (is_name nm)) ≡ false → outside_of k z ≡ false → GoodEnd (used_end (end k z nm)) × EndRange (used_end (end k z nm))
end-good zero z nm u o = (record { short = omega arith; end = refl }, refl)
end-good (suc zero) z nm u o = (record { short = omega arith; end = index-inside z o }, index-range z o)
end-good (suc (suc zero)) z nm u o = (record { short = short-name nm u; end = index-inside z o }, index-range z o)
end-good (suc (suc (suc zero))) z nm u o = (record { short = omega arith; end = span-inside z o }, span-range z o)
end-good (suc (suc (suc (suc zero)))) z nm u o = (record { short = short-name nm u; end = span-inside z o }, span-range z o)
end-good (suc (suc (suc (suc (suc k))))) z nm u o = absurd (true≢false o)

-- ---- a placement
both-false : (a b : Bool) → (a || b) ≡ false → (a ≡ false) × (b ≡ false)
both-false true b e = absurd (true≢false e)
both-false false b e = (refl, e)

ends-good : (axis : ℕ) (s e : End) → given_fault axis s e ≡ 0 → (GoodEnd (used_end s) × EndRange (used_end s)) × (GoodEnd (used_end e) × EndRange (used_end e))
unfolding given_fault
ends-good axis s e = go (is_unnamed s || is_unnamed e) (ltb 1 axis || (is_outside s || is_outside e)) refl refl
  where
    go : (a b : Bool) → (is_unnamed s || is_unnamed e) ≡ a → (ltb 1 axis || (is_outside s || is_outside e)) ≡ b → cond a name (cond b count 0) ≡ 0
        → (GoodEnd (used_end s) × EndRange (used_end s)) × (GoodEnd (used_end e) × EndRange (used_end e))
    go true b x y z = absurd (omega (arith, z))
    go false true x y z = absurd (omega (arith, z))
    go false false x y z =
        let n = both-false (is_unnamed s) (is_unnamed e) x in
        let o = both-false (is_outside s) (is_outside e) (both-false (ltb 1 axis) (is_outside s || is_outside e) y).1 in
        (end-good s.end.kind s.end.number s.name n.0 o.0, end-good e.end.kind e.end.number e.name n.1 o.1)

pub placement-good : (g : GivenPlacement) (names : Bytes) → fault_given g names ≡ 0 → GoodPlacement (placement_given g names) × PlacementRange (placement_given g names)
placement-good g names z =
    let k = ends-good g.axis (start_given g names) (end_given g names) z in
    (record { start = k.0.0; end = k.1.0 }, (k.0.1, k.1.1))
