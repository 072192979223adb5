-- Floor and ceiling of an f32 as a u32 (document 01, "worked out here"), by its exact value.
-- `fin s m e` is m * 2 ^ e, the fraction m * up e / down e, negative where s is true.
use Rattle.std.specs.Prelude.{ℕ, ◌+◌, ◌-◌, ◌*◌, ◌/◌, min, cond, Float}
use Rattle.std.specs.Float.{nan, inf, fin}
use Rattle.std.specs.Float.Ieee.{up, down}

-- the largest count: the largest u32
abbrev pub largest_count : ℕ
largest_count = 0xffff_ffff

-- the greatest whole number not above x, held to 0 .. the largest count; a NaN, as 0 over 0, counts as 0
unfoldable pub floor_of : Float → ℕ
floor_of nan = 0
floor_of (inf s) = cond s 0 largest_count
floor_of (fin s m e) = cond s 0 (min (m * up e / down e) largest_count)

-- the least whole number not below x, held likewise
unfoldable pub ceiling_of : Float → ℕ
ceiling_of nan = 0
ceiling_of (inf s) = cond s 0 largest_count
ceiling_of (fin s m e) = cond s 0 (min ((m * up e + (down e - 1)) / down e) largest_count)
