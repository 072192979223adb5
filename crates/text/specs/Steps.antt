-- What the code's steps answer: digits are held at 2^32. The laws of the proofs make the hold vanish.
use Rattle.std.specs.Prelude.{ℕ, suc, ◌-◌, min, cond, ltb, Bool, true, false, ℤ, pos, negsuc, Option, Some, None, Result, Ok, Err}
use Rattle.text.specs.Whole.{Natural, bad, number, Written, none, whole}
use Rattle.text.specs.Hexadecimal.{digit_of}
use Rattle.text.specs.declared.NumberFault.{NumberFault}
use Rattle.text.specs.declared.NumberFault.TheVariants.{Unread, Outside}

abbrev pub top : ℕ
top = 4294967296

unfoldable pub held : Natural → Option ℕ
held bad = None
held (number n) = Some (min top n)

unfoldable pub held_whole : Written → Option ℤ
held_whole none = None
held_whole (whole (pos n)) = Some (pos (min top n))
held_whole (whole (negsuc k)) = Some (negsuc (min top (suc k) - 1))

-- whether an integer lies below another
abbrev pub below : ℤ → ℤ → Bool
below (pos m) (pos n) = ltb m n
below (pos m) (negsuc n) = false
below (negsuc m) (pos n) = true
below (negsuc m) (negsuc n) = ltb n m

-- an integer from least to most
abbrev pub within : ℤ → ℤ → Option ℤ → Result ℤ NumberFault
within least most None = Err Unread
within least most (Some z) = cond (below z least) (Err Outside) (cond (below most z) (Err Outside) (Ok z))

-- a hexadecimal digit's number
abbrev pub hex_digit : ℕ → Option ℕ
hex_digit b = cond (ltb (digit_of b) 16) (Some (digit_of b)) None
