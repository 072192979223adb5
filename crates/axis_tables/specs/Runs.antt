-- Things that have names: their words one after the other, each with the offset of its name, and the bytes of the names likewise.
use Rattle.std.specs.Prelude.{ℕ, ◌+◌, ◌-◌, cond, ltb, List, [], ◌∷◌, ◌++◌, length, take, drop}
use Rattle.std.proofs.lemmas.List.Edits.{sets}

-- the bytes of the names, one after the other
abbrev pub bytes_of : {A : Type 0} → (A → List ℕ) → List A → List ℕ
bytes_of name [] = []
bytes_of name (x ∷ xs) = name x ++ bytes_of name xs

-- the words of things whose names start at `offset`; a word is made of the thing and the offset of its name
abbrev pub words_from : {A : Type 0} → (A → ℕ → ℕ) → (A → List ℕ) → ℕ → List A → List ℕ
words_from word name offset [] = []
words_from word name offset (x ∷ xs) = word x offset ∷ words_from word name (offset + length (name x)) xs

-- a name's bytes from `offset` on, where the store has room for them
unfoldable pub put_bytes : List ℕ → ℕ → List ℕ → List ℕ
put_bytes bytes offset name =
    cond (ltb (length bytes) offset) bytes
    (cond (ltb (length bytes - offset) (length name)) bytes (sets bytes offset name))

-- the bytes of a name, as far as the store reaches
abbrev pub part_of : List ℕ → ℕ → ℕ → List ℕ
part_of bytes offset length = take length (drop offset bytes)

-- a list with others in the place of `length` from `offset` on
abbrev pub with_part : List ℕ → ℕ → ℕ → List ℕ → List ℕ
with_part s offset length others = take offset s ++ (others ++ drop length (drop offset s))

-- what holds of each
abbrev pub All : {A : Type 0} → (A → Type 0) → List A → Type 0
All P [] = Unit
All P (x ∷ xs) = P x × All P xs
