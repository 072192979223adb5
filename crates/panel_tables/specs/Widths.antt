-- The width of a picture's rows, where there is one.
use Rattle.std.specs.Prelude.{ℕ, Bool, true, false, Option, Some, None}

-- whether no row was read
abbrev pub is_unread : Option ℕ → Bool
is_unread None = true
is_unread (Some width) = false
