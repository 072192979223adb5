-- Entries placed one after the other in a table.
use mathlib.Core.Path.{◌≡◌, refl, sym, ◌∙◌, ap}
use mathlib.Core.List.{List, [], ◌∷◌, ◌++◌, map, append-nil}
use borrow.Rule.Slice.PartMut.{put_mid}
use Prim.Native.Nat.{ℕ, zero, suc, ◌+◌, ◌-◌, ◌*◌, ◌≤◌}
use native.Mathlib.Nat.{suc-mul}
use native.Mathlib.Omega.{arith}
use lib.ListN.{length, take, drop, set, length-map, length-drop, take-append-drop, drop_of_length-le}
use lib.Seq.{sets, length-take-le, take_all}
use Rattle.std.proofs.lemmas.List.{map-append}
use Rattle.name_entries.specs.declared.NameEntry.{NameEntry}
use Rattle.name_entries.specs.declared.NamePlace.{NamePlace}
use Rattle.name_template.specs.declared.ComponentNames.{ComponentNames}
use Rattle.name_entries.specs.Places.{name_place}
use Rattle.name_template.specs.Writing.{entry_on, entries_on, entry_word}
use Rattle.name_template.specs.Steps.{copies_on, component_count, component_entries}

-- a word holds small numbers
module _ (w : ℕ) (r : NamePlace) (e : r ≡ name_place w) where
  pub small-place : r.place ≤ 255
  unfolding name_place
  small-place = rw e (omega arith)

  pub small-offset : r.offset ≤ 65535
  unfolding name_place
  small-offset = rw e (omega arith)

  pub small-length : r.length ≤ 255
  unfolding name_place
  small-length = rw e (omega arith)

pub sets_append : (d : List ℕ) (o : ℕ) (l m : List ℕ) → sets d o (l ++ m) ≡ sets (sets d o l) (o + length l) m
sets_append d o [] m = let e : o + 0 ≡ o = omega arith in rw e
sets_append d o (x ∷ l) m = let e : o + suc (length l) ≡ suc o + length l = omega arith in rw e (sets_append (set d o x) (suc o) l m)

-- what is set in a part of a list from a place on is set in the list behind that place
set_behind : (p q : List ℕ) (i x : ℕ) → set (p ++ q) (length p + i) x ≡ p ++ set q i x
set_behind [] q i x = let e : 0 + i ≡ i = omega arith in rw e
set_behind (y ∷ p) q i x = let e : suc (length p) + i ≡ suc (length p + i) = omega arith in rw (e, set_behind p q i x)

sets_behind : (p q xs : List ℕ) (i : ℕ) → sets (p ++ q) (length p + i) xs ≡ p ++ sets q i xs
sets_behind p q [] i = refl
sets_behind p q (x ∷ xs) i =
    let e : suc (length p + i) ≡ length p + suc i = omega arith in
    rw (set_behind p q i x, e) (sets_behind p (set q i x) xs (suc i))

pub sets_part : (l xs : List ℕ) (o : ℕ) → o ≤ length l → put_mid o (length l - o) l (sets (take (length l - o) (drop o l)) 0 xs) ≡ sets l o xs
sets_part l xs o h =
    let d : take (length l - o) (drop o l) ≡ drop o l = take_all (length l - o) (drop o l) (rw length-drop (omega arith)) in
    let z : drop (length l - o) (drop o l) ≡ [] = drop_of_length-le (drop o l) (rw length-drop (omega arith)) in
    let n : length (take o l) + 0 ≡ o = rw (length-take-le o l h) (omega arith) in
    rw (d, z, append-nil (sets (drop o l) 0 xs))
    (sym (sets_behind (take o l) (drop o l) xs 0) ∙ rw (n, take-append-drop o l))

-- two runs of entries, one after the other
pub placed-append : (d : List ℕ) (o : ℕ) (l m : List NameEntry)
    → sets d o (map entry_word (l ++ m)) ≡ sets (sets d o (map entry_word l)) (o + length l) (map entry_word m)
placed-append d o l m =
    let e : length (map entry_word l) ≡ length l = length-map l entry_word in
    rw (map-append entry_word l m, sets_append d o (map entry_word l) (map entry_word m), e)

pub one_less : (n m : ℕ) → (n ≡ 0 → ⊥) → n * m ≡ (n - 1) * m + m
one_less zero m out = absurd (out refl)
one_less (suc n) m out = let e : suc n - 1 ≡ n = omega arith in rw e (suc-mul n m)

pub copies-next : (n line t : ℕ) (names d : List ℕ) (o : ℕ) → (n ≡ 0 → ⊥)
    → sets d o (map entry_word (copies_on n line t names))
    ≡ sets (sets d o (map entry_word (entries_on line names))) (o + length names) (map entry_word (copies_on (n - 1) (line + t) t names))
unfolding copies_on
copies-next zero line t names d o out = absurd (out refl)
copies-next (suc n) line t names d o out =
    let e : suc n - 1 ≡ n = omega arith in
    let k : length (entries_on line names) ≡ length names = length-map names (entry_on line) in
    rw (e, placed-append d o (entries_on line names) (copies_on n (line + t) t names), k)

pub copies-end : (line t : ℕ) (names d : List ℕ) (o n : ℕ) → n ≡ 0 → sets d o (map entry_word (copies_on n line t names)) ≡ d
unfolding copies_on
copies-end line t names d o n z = rw z

pub none_left : (n m o whole : ℕ) → n ≡ 0 → o + n * m ≡ whole → o ≡ whole
none_left n m o whole z e = let f : o + 0 * m ≡ whole = rw z at e in omega arith

pub part_length : (names : List ℕ) (from to : ℕ) → from ≤ to → to ≤ length names → length (take (to - from) (drop from names)) ≡ to - from
part_length names from to h g = length-take-le (to - from) (drop from names) (rw length-drop (omega arith))

-- a component's names before it, and then those inside it
pub component-placed : (names d once all : List ℕ) (at line r : ℕ) (c : ComponentNames) → at ≤ c.before → c.before ≤ c.inside → c.inside ≤ length names
    → once ≡ sets d 0 (map entry_word (entries_on line (take (c.before - at) (drop at names))))
    → r ≡ c.times * length (take (c.inside - c.before) (drop c.before names))
    → all ≡ sets once (c.before - at) (map entry_word (copies_on c.times line c.tracks (take (c.inside - c.before) (drop c.before names))))
    → ((c.before - at) + r ≡ component_count at c) × (all ≡ sets d 0 (map entry_word (component_entries names at c line)))
component-placed names d once all at line r c x y z one count copies =
    let p : length (entries_on line (take (c.before - at) (drop at names))) ≡ c.before - at =
    rw length-map (part_length names at c.before x (omega arith)) in
    let q = part_length names c.before c.inside y z in
    let n : 0 + (c.before - at) ≡ c.before - at = omega arith in (
      ap (λ (m : ℕ). (c.before - at) + m) (rw q at count),
      copies ∙ rw (one, placed-append d 0 (entries_on line (take (c.before - at) (drop at names))) (copies_on c.times line c.tracks (take (c.inside - c.before) (drop c.before names))), p, n),
    )
