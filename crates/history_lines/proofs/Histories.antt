-- What was written is found again, the lines passed are exactly a history, and a new line after the first ones keeps these. Assumes nothing.
use Prim.Native.Nat.{ℕ, zero, suc, ◌+◌, ◌≤◌}
use mathlib.Core.Path.{◌≡◌, refl, sym, ap, ◌∙◌}
use mathlib.Core.List.{List, [], ◌∷◌, ◌++◌, append_assoc, append-nil}
use native.Mathlib.Omega.{arith}
use lib.ListN.{length, take, drop, length-append}
use lib.Seq.{sets-eq, take_at, drop_at, take-append_seam, length-take-le}
use borrow.Author.Tests.{le-leb}
use Rattle.text.specs.Places.{part_at}
use Rattle.text.proofs.Cut.{Free, AllFree}
use Rattle.history_lines.specs.declared.HistoryLine.{HistoryLine}
use Rattle.history_lines.specs.Lines.{history_line, history_of}
use Rattle.history_lines.specs.Found.{line_at, after_line, after_lines}
use Rattle.history_lines.specs.Written.{bytes_after}
use Rattle.history_lines.proofs.Exactly.{text_place, LineThere, line-there, line-text, line-rest, line-here, same_at, none-at}
use Rattle.std.specs.Prelude.{Option, Some, None}

-- ---- a line that was written

module _ (b line : List ℕ) (p : ℕ) (fits : p + length line ≤ length b) where
  pub written-eq : bytes_after b p line ≡ take p b ++ (line ++ drop (p + length line) b)
  written-eq = rw (le-leb (p + length line) (length b) fits) (sets-eq line b p fits ∙ append_assoc (take p b) line (drop (p + length line) b))

  head-length : length (take p b) ≡ p
  head-length = length-take-le p b (omega arith)

  -- it stands at its place; the bytes before it and after it are as they were
  pub written_stands : drop p (bytes_after b p line) ≡ line ++ drop (p + length line) b
  written_stands = rw (written-eq) (drop_at (take p b) (line ++ drop (p + length line) b) p head-length)

  pub written-before : take p (bytes_after b p line) ≡ take p b
  written-before = rw (written-eq) (take_at (take p b) (line ++ drop (p + length line) b) p head-length)

module _ (n : ℕ) (text b : List ℕ) (p : ℕ) (fits : p + length (history_line n text) ≤ length b) where
  pub found-written : Free 10 text → line_at n (bytes_after b p (history_line n text)) p ≡ Some (text_place n text p)
  found-written f =
      line-here n (bytes_after b p (history_line n text)) p text (drop (p + length (history_line n text)) b) (written_stands b (history_line n text) p fits) f

  pub text-written : part_at (bytes_after b p (history_line n text)) (text_place n text p).text ≡ text
  text-written =
      line-text n (bytes_after b p (history_line n text)) p text (drop (p + length (history_line n text)) b) (written_stands b (history_line n text) p fits)

-- ---- lines one after the other

-- k lines numbered from n on stand from p to q
pub record Lines (k n : ℕ) (s : List ℕ) (p q : ℕ) : Type 0 where
  pub texts : List (List ℕ)
  pub many : length texts ≡ k
  pub free : AllFree 10 texts
  pub end : q ≡ p + length (history_of n texts)
  pub stands : drop p s ≡ history_of n texts ++ drop q s

-- one before them
lines-before : (k n : ℕ) (s : List ℕ) (p q : ℕ) (line : HistoryLine) → LineThere n s p line → Lines k (suc n) s line.after q → Lines (suc k) n s p q
unfolding history_of
lines-before k n s p q line l m =
    let a : line.after ≡ p + length (history_line n l.text) = ap (λ (x : HistoryLine). x.after) l.place in
    record {
      texts = l.text ∷ m.texts;
      many = ap suc m.many;
      free = (l.free, m.free);
      end = omega (arith, m.end, a, length-append (history_line n l.text) (history_of (suc n) m.texts));
      stands = l.stands ∙ ap (λ (x : List ℕ). history_line n l.text ++ x) m.stands ∙ sym (append_assoc (history_line n l.text) (history_of (suc n) m.texts) (drop q s));
    }

-- lines are passed exactly where they stand
pub walked : (k n : ℕ) (s : List ℕ) (p q : ℕ) → after_lines k n s p ≡ Some q → Lines k n s p q
unfolding after_lines history_of
walked zero n s p q e =
    let i = same_at p q e in
    record { texts = []; many = refl; free = tt; end = omega (arith, i); stands = ap (λ (j : ℕ). drop j s) i }
walked (suc k) n s p q e = go (line_at n s p) refl (walked k (suc n) s) e
  where
    go : (x : Option HistoryLine) → line_at n s p ≡ x → ((a z : ℕ) → after_lines k (suc n) s a ≡ Some z → Lines k (suc n) s a z)
        → after_line (after_lines k (suc n) s) x ≡ Some q → Lines (suc k) n s p q
    go None h i g = absurd (none-at q g)
    go (Some line) h i g = lines-before k n s p q line (line-there n s p line h) (i line.after q g)

pub passed : (texts : List (List ℕ)) (n : ℕ) (s : List ℕ) (p : ℕ) (r : List ℕ) → AllFree 10 texts → drop p s ≡ history_of n texts ++ r
    → after_lines (length texts) n s p ≡ Some (p + length (history_of n texts))
unfolding after_lines history_of
passed [] n s p r f e = ap Some (omega arith)
passed (t ∷ ts) n s p r f e = go (passed ts (suc n) s (p + length (history_line n t)) r f.1)
  where
    there : drop p s ≡ history_line n t ++ (history_of (suc n) ts ++ r)
    there = e ∙ append_assoc (history_line n t) (history_of (suc n) ts) r

    go : (drop (p + length (history_line n t)) s ≡ history_of (suc n) ts ++ r
        → after_lines (length ts) (suc n) s (p + length (history_line n t)) ≡ Some (p + length (history_line n t) + length (history_of (suc n) ts)))
        → after_line (after_lines (length ts) (suc n) s) (line_at n s p) ≡ Some (p + length (history_line n t ++ history_of (suc n) ts))
    go i =
        let z : p + length (history_line n t) + length (history_of (suc n) ts) ≡ p + length (history_line n t ++ history_of (suc n) ts) =
        omega (arith, length-append (history_line n t) (history_of (suc n) ts)) in
        rw (line-here n s p t (history_of (suc n) ts ++ r) there f.0) (i (line-rest n s p t (history_of (suc n) ts ++ r) there) ∙ ap Some z)

-- from the first byte on: the place after k lines is found exactly where the bytes begin with a history of k texts
pub walked_exactly : (k : ℕ) (s : List ℕ) (q : ℕ) → after_lines k 1 s 0 ≡ Some q → Lines k 1 s 0 q
walked_exactly k s q e = walked k 1 s 0 q e

pub nothing-stands : (texts : List (List ℕ)) (s r : List ℕ) → AllFree 10 texts → s ≡ history_of 1 texts ++ r → after_lines (length texts) 1 s 0 ≡ None → ⊥
nothing-stands texts s r f e q = none-at (0 + length (history_of 1 texts)) (sym q ∙ passed texts 1 s 0 r f e)

-- ---- a new line after the first ones

pub history_append : (n : ℕ) (ts us : List (List ℕ)) → history_of n (ts ++ us) ≡ history_of n ts ++ history_of (n + length ts) us
unfolding history_of
history_append n [] us = let e : n + 0 ≡ n = omega arith in rw e
history_append n (t ∷ ts) us =
    let e : n + suc (length ts) ≡ suc n + length ts = omega arith in
    rw (e, history_append (suc n) ts us) (sym (append_assoc (history_line n t) (history_of (suc n) ts) (history_of (suc n + length ts) us)))

history_one : (n : ℕ) (text : List ℕ) → history_of n (text ∷ []) ≡ history_line n text
unfolding history_of
history_one n text = append-nil (history_line n text)

-- the lines after the first ones are dropped: their bytes are the new line's, as far as it reaches, and all others stay
pub kept_first : (ts later : List (List ℕ)) (text r b : List ℕ) → b ≡ history_of 1 (ts ++ later) ++ r
    → length (history_of 1 ts) + length (history_line (1 + length ts) text) ≤ length b
    → bytes_after b (length (history_of 1 ts)) (history_line (1 + length ts) text)
    ≡ history_of 1 (ts ++ (text ∷ [])) ++ drop (length (history_of 1 ts) + length (history_line (1 + length ts) text)) b
kept_first ts later text r b e fits =
    let line = history_line (1 + length ts) text in
    let whole : b ≡ history_of 1 ts ++ (history_of (1 + length ts) later ++ r) =
    e ∙ rw (history_append 1 ts later) (append_assoc (history_of 1 ts) (history_of (1 + length ts) later) r) in
    let head : take (length (history_of 1 ts)) b ≡ history_of 1 ts =
    ap (λ (x : List ℕ). take (length (history_of 1 ts)) x) whole ∙ take-append_seam (history_of 1 ts) (history_of (1 + length ts) later ++ r) in
    written-eq b line (length (history_of 1 ts)) fits
    ∙ ap (λ (x : List ℕ). x ++ (line ++ drop (length (history_of 1 ts) + length line) b)) head
    ∙ sym (append_assoc (history_of 1 ts) line (drop (length (history_of 1 ts) + length line) b))
    ∙ ap (λ (x : List ℕ). x ++ drop (length (history_of 1 ts) + length line) b) (sym (history_append 1 ts (text ∷ []) ∙ ap (λ (x : List ℕ). history_of 1 ts ++ x) (history_one (1 + length ts) text)))
