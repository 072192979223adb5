-- Numbers of a placement without a sign: 32,768 more.
use Rattle.std.specs.Prelude.{ℕ, ◌+◌, ◌-◌, min, cond, leb, ℤ, pos, negsuc}

-- a number from -32,768 to 65,535, else the nearest, as a count
abbrev pub count_of : ℤ → ℕ
count_of (pos n) = min n 65535 + 32768
count_of (negsuc k) = 32767 - min k 32767

-- the number that a count stands for
abbrev pub number_of : ℕ → ℤ
number_of c = cond (leb 32768 c) (pos (c - 32768)) (negsuc (32767 - c))
