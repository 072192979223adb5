-- The lists of the explicit lines, one line after the other, as a loop takes them.
use mathlib.Core.Path.{◌≡◌, subst}
use mathlib.Core.List.{List, []}
use Prim.Native.Nat.{ℕ, ◌+◌, ◌-◌, ◌≤◌, ◌<◌}
use native.Mathlib.Omega.{arith}
use lib.ListN.{length, take, drop, length-drop}
use lib.Seq.{length-take-le}
use borrow.Rule.Slice.PartMut.{put_mid}
use Rattle.name_lists.specs.Lists.{line_words, lists, Written}
use Rattle.name_lists.proofs.Counting.{few-lists}
use Rattle.name_lists.proofs.Writing.{Rests, rests-all, rests-next, rests-fit, rests-none, lines_from, lines-all, lines_next, lines_end}

module _ (explicit : ℕ) (entries store lent : List ℕ) where
  -- the lists of the lines before this one are written
  abbrev pub Lines : List ℕ → ℕ → ℕ → Type 0
  Lines words count line = Rests lent (lists explicit entries store) words count (lines_from explicit entries store line) × (count ≤ length lent)

  pub lines-begin : Lines lent 0 1
  lines-begin = (subst (Rests lent (lists explicit entries store) lent 0) (lines-all explicit entries store) (rests-all lent (lists explicit entries store)), omega arith)

  module _ (words : List ℕ) (count line : ℕ) (held : Lines words count line) where
    pub lines-room : line ≤ explicit + 1 → length entries ≤ length lent → count + length (line_words entries store line) ≤ length words
    lines-room h room =
        let f = few-lists entries store explicit in
        rests-fit lent (lists explicit entries store) words count (line_words entries store line) (lines_from explicit entries store line) (lines_from explicit entries store (line + 1)) held.0
        (lines_next explicit entries store line h) (omega (arith, f))

    pub lines-done : explicit + 1 < line → Written lent (lists explicit entries store) words count
    lines-done h = rests-none lent (lists explicit entries store) words count (lines_from explicit entries store line) held.0 (lines_end explicit entries store line h)

    -- and all are where the others list nothing
    pub lines-left : lines_from explicit entries store line ≡ [] → Written lent (lists explicit entries store) words count
    lines-left e = rests-none lent (lists explicit entries store) words count (lines_from explicit entries store line) held.0 e

    -- the words behind those that are there
    module _ (left : ℕ) (rest : left ≡ length words - count) (h : line ≤ explicit + 1) (room : length entries ≤ length lent) where
      -- the line's list fits them
      pub lines_part : length (line_words entries store line) ≤ length (take left (drop count words))
      lines_part = let f = lines-room h room in rw (length-take-le left (drop count words) (rw length-drop (omega arith))) (omega (arith, f))

      pub lines_sum : (next : ℕ) → next ≡ length (line_words entries store line) → count + next ≤ length words
      lines_sum next e = let f = lines-room h room in omega (arith, f, e)

      -- and is written there
      pub lines-turn : (after : List ℕ) (next : ℕ) → Written (take left (drop count words)) (line_words entries store line) after next → Lines (put_mid count left words after) (count + next) (line + 1)
      lines-turn after next w =
          let f = lines-room h room in (
            rw rest (rests-next lent (lists explicit entries store) words after count next (line_words entries store line) (lines_from explicit entries store line) (lines_from explicit entries store (line + 1)) held.0
                (lines_next explicit entries store line h) (omega (arith, f)) (rw rest at w)),
            omega (arith, f, w.counted, held.0.kept),
          )

  -- the last line's list is written
  pub lines-last : (words : List ℕ) (count line : ℕ) → Lines words count line → (left : ℕ) → left ≡ length words - count → line ≡ explicit + 1 → length entries ≤ length lent
      → (after : List ℕ) (next : ℕ) → Written (take left (drop count words)) (line_words entries store line) after next
      → Written lent (lists explicit entries store) (put_mid count left words after) (count + next)
  lines-last words count line held left rest e room after next w =
      lines-done _ (count + next) (line + 1) (lines-turn words count line held left rest (omega arith) room after next w) (omega arith)
