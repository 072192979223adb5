-- Document 01, layer 1, over ℤ: the two numberings of lines. CSS (7.1) numbers lines from 1 at the start edge and from -1 backwards
-- at the end edge, and has no line 0; an origin-zero line has 0 at the first explicit line. n is the number of explicit tracks.
use Rattle.std.specs.Prelude.{◌≡◌, ℕ, zero, suc, ◌+◌, ◌≤◌, min, Bool, ltb, ℤ, pos, negsuc, ◌+ℤ◌, ◌-ℤ◌}

-- held within -10,000..10,000 (`negsuc l` is -(l + 1))
abbrev pub held : ℤ → ℤ
held (pos l) = pos (min l 10000)
held (negsuc l) = negsuc (min l 9999)

-- a line that needs no holding
abbrev pub Within : ℤ → Type 0
Within (pos l) = l ≤ 10000
Within (negsuc l) = l ≤ 9999

-- grid line g > 0 is g - 1 and g < 0 is g + n + 1, before it is held; no line has number 0
abbrev pub uncut : ℕ → ℤ → ℤ
uncut n (pos zero) = pos zero
uncut n (pos (suc g)) = pos g
uncut n (negsuc g) = negsuc g +ℤ pos (suc n)

abbrev pub to_origin_zero : ℕ → ℤ → ℤ
to_origin_zero n g = held (uncut n g)

-- back: l ≥ 0 gives l + 1, else l - n - 1 (`suc n` is n + 1)
abbrev pub to_grid_line : ℕ → ℤ → ℤ
to_grid_line n (pos l) = pos (suc l)
to_grid_line n (negsuc l) = negsuc l -ℤ pos (suc n)

-- two grid lines counted from the same edge
abbrev pub SameSide : ℤ → ℤ → Type 0
SameSide (pos zero) h = ⊥
SameSide (pos (suc g)) (pos zero) = ⊥
SameSide (pos (suc g)) (pos (suc h)) = Unit {0}
SameSide (pos (suc g)) (negsuc h) = ⊥
SameSide (negsuc g) (pos h) = ⊥
SameSide (negsuc g) (negsuc h) = Unit {0}

-- two grid lines that name the same line: the same number, or one from each edge that meet (1 and -4 with three tracks)
abbrev pub SameLine : ℕ → ℤ → ℤ → Type 0
SameLine n (pos zero) (pos h) = ⊥
SameLine n (pos zero) (negsuc h) = ⊥
SameLine n (pos (suc g)) (pos zero) = ⊥
SameLine n (pos (suc g)) (pos (suc h)) = g ≡ h
SameLine n (pos (suc g)) (negsuc h) = g + h ≡ n
SameLine n (negsuc g) (pos zero) = ⊥
SameLine n (negsuc g) (pos (suc h)) = h + g ≡ n
SameLine n (negsuc g) (negsuc h) = g ≡ h

-- outside -10,000..10,000
abbrev pub outside : ℤ → Bool
outside (pos l) = ltb 10000 l
outside (negsuc l) = ltb 9999 l
