-- What a call that writes text adds to a line, and what it leaves in lent bytes.
use Rattle.std.specs.Prelude.{ℕ, ◌+◌, ◌≤◌, ◌≡◌, List, [], ◌∷◌, ◌++◌, length}
use Rattle.std.proofs.lemmas.List.Edits.{sets}

-- a text of at most so many bytes was added to a line, where there was room for it
pub record Adds (before text after : List ℕ) (most : ℕ) : Type 0 where
  pub whole : length before + length text ≤ 128 → after ≡ before ++ text
  pub near : length text ≤ most

-- the same for a field and the byte that ends it, at most 16 bytes together
pub record AddsField (before field : List ℕ) (last : ℕ) (after : List ℕ) : Type 0 where
  pub added : Adds before (field ++ (last ∷ [])) after 16

-- and for two fields, a tab after each, at most 32 bytes together
pub record AddsTwo (before first second after : List ℕ) : Type 0 where
  pub added : Adds before (first ++ (9 ∷ (second ++ (9 ∷ [])))) after 32

-- a line was written at the start of bytes, cut where these end; the answer is its length, at most 128
pub record WritesLine (before line after : List ℕ) (answer : ℕ) : Type 0 where
  pub bytes : after ≡ sets before 0 line
  pub whole : answer ≡ length line
  pub fits : answer ≤ 128
