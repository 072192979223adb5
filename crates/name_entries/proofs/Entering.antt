-- Entries as words: read back from them, and one after the other.
use mathlib.Core.Path.{◌≡◌, refl}
use mathlib.Core.List.{List, [], ◌∷◌, ◌++◌}
use Prim.Native.Nat.{ℕ, ◌+◌, ◌*◌, ◌/◌, ◌%◌, ◌<◌}
use native.Mathlib.Omega.{arith}
use Rattle.name_entries.specs.Entries.{entry_of, word_of, named_entry, entries_of}

-- an entry is read back from its word
pub entry-word : (line offset n : ℕ) → line < 65536 → offset < 65536 → n < 256
    → entry_of (word_of line offset n) ≡ record { line = line; offset = offset; length = n }
unfolding entry_of
entry-word line offset n a b d =
    let x : (line + offset * 65536 + n * 4294967296) % 65536 ≡ line = omega arith in
    let q : (line + offset * 65536 + n * 4294967296) / 65536 ≡ offset + n * 65536 = omega arith in
    let y : (offset + n * 65536) % 65536 ≡ offset = omega arith in
    let r : (line + offset * 65536 + n * 4294967296) / 4294967296 ≡ n = omega arith in
    let z : n % 256 ≡ n = omega arith in
    rw (x, q, y, r, z)

pub entries_cons : (w : ℕ) (l store : List ℕ) → entries_of (w ∷ l) store ≡ named_entry store (entry_of w) ∷ entries_of l store
unfolding entries_of
entries_cons w l store = refl

pub entries_nil : (store : List ℕ) → entries_of [] store ≡ []
unfolding entries_of
entries_nil store = refl

pub entries-append : (l m store : List ℕ) → entries_of (l ++ m) store ≡ entries_of l store ++ entries_of m store
unfolding entries_of
entries-append [] m store = refl
entries-append (w ∷ l) m store = rw (entries-append l m store)
