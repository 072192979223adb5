-- What a line that is written leaves in lent bytes: where it does not fit nothing is written.
use Rattle.std.specs.Prelude.{ℕ, ◌+◌, List, cond, leb, length, Option, Some, None}
use Rattle.std.proofs.lemmas.List.Edits.{sets}

-- the place after a line that fits
abbrev pub place_after : List ℕ → ℕ → List ℕ → Option ℕ
place_after bytes place line = cond (leb (place + length line) (length bytes)) (Some (place + length line)) None

-- the bytes after it: the line from its place on, all others as they were
abbrev pub bytes_after : List ℕ → ℕ → List ℕ → List ℕ
bytes_after bytes place line = cond (leb (place + length line) (length bytes)) (sets bytes place line) bytes
