-- A line is found at a place exactly where its number, a tab, a text without a line feed and a line feed stand there. Assumes nothing.
use Prim.Native.Nat.{ℕ, suc, ◌+◌, ◌<◌}
use mathlib.Core.Path.{◌≡◌, refl, sym, ap, ◌∙◌}
use mathlib.Core.List.{List, [], ◌∷◌, ◌++◌, append_assoc}
use mathlib.Core.Bool.{Bool, true, false, cond}
use native.Mathlib.Omega.{arith}
use native.Mathlib.Nat.{not-suc-le-zero, le_of_suc-le-suc}
use lib.Dec.{eqb, ltb}
use lib.ListN.{length, take, drop, length-append, length-drop, take-append-drop}
use lib.Seq.{drop-drop, take-length, take-append_seam, drop-append_seam, length-take-le}
use borrow.Author.Tests.{eqb-true, eqb-false, eq-eqb, ne_eqb, ltb-true, lt-ltb}
use Rattle.text.specs.Split.{before, same}
use Rattle.text.specs.Places.{part_at}
use Rattle.text.proofs.Cut.{Free}
use Rattle.text.proofs.Which.{same_equal, same_self}
use Rattle.history_lines.specs.declared.HistoryLine.{HistoryLine}
use Rattle.text.specs.Decimal.{decimal}
use Rattle.history_lines.specs.Lines.{history_line}
use Rattle.history_lines.specs.Found.{mark, after_text, ended_at, ended_after, line_at}
use Rattle.history_lines.proofs.Steps.{length_line}
use Rattle.std.specs.Prelude.{Option, Some, None}

-- ---- a text that stands at a place

pub same_at : (p q : ℕ) → Some p ≡ Some q → p ≡ q
same_at p q e = cc

pub none-at : (q : ℕ) → None ≡ Some q → ⊥
none-at q e = let z : ◌≡◌ {A = ℕ} 0 1 = cc in omega arith

pub text_there : (t s : List ℕ) (p q : ℕ) → after_text t s p ≡ Some q → (q ≡ p + length t) × (drop p s ≡ t ++ drop q s)
unfolding after_text
text_there t s p q e = go (same (take (length t) (drop p s)) t) refl e
  where
    go : (b : Bool) → same (take (length t) (drop p s)) t ≡ b → cond b (Some (p + length t)) None ≡ Some q → (q ≡ p + length t) × (drop p s ≡ t ++ drop q s)
    go true h k =
        let i : q ≡ p + length t = sym (same_at (p + length t) q k) in
        (i, sym (take-append-drop (length t) (drop p s)) ∙ rw (same_equal (take (length t) (drop p s)) t h, drop-drop (length t) p s, i))
    go false h k = absurd (none-at q k)

pub text_here : (t s r : List ℕ) (p : ℕ) → drop p s ≡ t ++ r → after_text t s p ≡ Some (p + length t)
unfolding after_text
text_here t s r p e = rw (e, take-append_seam t r, same_self t)

-- ---- a text up to its line feed

before-cut : (b : ℕ) (l : List ℕ) → before b l < length l → l ≡ take (before b l) l ++ (b ∷ drop (before b l + 1) l)
unfolding before
before-cut b [] h = absurd (not-suc-le-zero h)
before-cut b (x ∷ l) h = go (eqb x b) refl (before-cut b l) h
  where
    go : (t : Bool) → eqb x b ≡ t → (before b l < length l → l ≡ take (before b l) l ++ (b ∷ drop (before b l + 1) l)) → cond t 0 (suc (before b l)) < suc (length l)
        → x ∷ l ≡ take (cond t 0 (suc (before b l))) (x ∷ l) ++ (b ∷ drop (cond t 0 (suc (before b l)) + 1) (x ∷ l))
    go true q i k = ap (λ (y : ℕ). y ∷ l) (eqb-true x b q)
    go false q i k =
        let e : suc (before b l) + 1 ≡ suc (before b l + 1) = omega arith in
        rw e (ap (λ (m : List ℕ). x ∷ m) (i (le_of_suc-le-suc k)))

before_free : (b : ℕ) (l : List ℕ) → Free b (take (before b l) l)
unfolding before
before_free b [] = tt
before_free b (x ∷ l) = go (eqb x b) refl (before_free b l)
  where
    go : (t : Bool) → eqb x b ≡ t → Free b (take (before b l) l) → Free b (take (cond t 0 (suc (before b l))) (x ∷ l))
    go true q i = tt
    go false q i = (eqb-false x b q, i)

pub free_before : (b : ℕ) (t r : List ℕ) → Free b t → before b (t ++ (b ∷ r)) ≡ length t
unfolding before
free_before b [] r f = rw (eq-eqb b b refl)
free_before b (x ∷ t) r f = rw (ne_eqb x b f.0, free_before b t r f.1)

-- a text has no line feed exactly where none is found
pub one_line_free : (t : List ℕ) → eqb (before 10 t) (length t) ≡ true → Free 10 t
one_line_free t e = rw (eqb-true (before 10 t) (length t) e, take-length t) at (before_free 10 t)

whole_before : (t : List ℕ) → Free 10 t → before 10 t ≡ length t
unfolding before
whole_before [] f = refl
whole_before (x ∷ t) f = rw (ne_eqb x 10 f.0, whole_before t f.1)

pub free_one_line : (t : List ℕ) → Free 10 t → eqb (before 10 t) (length t) ≡ true
free_one_line t f = eq-eqb (before 10 t) (length t) (whole_before t f)

-- ---- a line

-- where the text of line n at a place lies
abbrev pub text_place : ℕ → List ℕ → ℕ → HistoryLine
text_place n text p =
    record { text = record { offset = p + length (decimal n) + 1; length = length text }; after = p + length (history_line n text) }

same_line : (l m : HistoryLine) → Some l ≡ Some m → l ≡ m
same_line l m e = cc

none-line : (l : HistoryLine) → None ≡ Some l → ⊥
none-line l e = let z : ◌≡◌ {A = ℕ} 0 1 = cc in omega arith

-- what is found at a place is a line that stands there
pub record LineThere (n : ℕ) (s : List ℕ) (p : ℕ) (line : HistoryLine) : Type 0 where
  pub text : List ℕ
  pub free : Free 10 text
  pub place : line ≡ text_place n text p
  pub stands : drop p s ≡ history_line n text ++ drop line.after s

-- its number and a tab
mark-length : (n : ℕ) → length (mark n) ≡ length (decimal n) + 1
mark-length n = length-append (decimal n) (9 ∷ [])

regroup : (n : ℕ) (t r : List ℕ) → history_line n t ++ r ≡ mark n ++ (t ++ (10 ∷ r))
unfolding history_line
regroup n t r = simp append_assoc

module _ (n : ℕ) (s : List ℕ) (p : ℕ) where
  ended-there : (start : ℕ) (line : HistoryLine) → start ≡ p + length (mark n) → drop p s ≡ mark n ++ drop start s → ended_at s start ≡ Some line → LineThere n s p line
  unfolding ended_at
  ended-there start line i e q = go (ltb (start + before 10 (drop start s)) (length s)) refl q
    where
      there : (k : ℕ) → Free 10 (take k (drop start s)) → start + k < length s → drop start s ≡ take k (drop start s) ++ (10 ∷ drop (k + 1) (drop start s))
          → Some (record { text = record { offset = start; length = k }; after = start + k + 1 }) ≡ Some line → LineThere n s p line
      there k f less cut g =
          let l = same_line (record { text = record { offset = start; length = k }; after = start + k + 1 }) line g in
          let after : start + (k + 1) ≡ line.after = omega (arith, ap (λ (x : HistoryLine). x.after) l) in
          let w : length (take k (drop start s)) ≡ k = length-take-le k (drop start s) (omega (arith, length-drop start s)) in
          let o : start ≡ p + length (decimal n) + 1 = omega (arith, mark-length n) in
          let z : start + k + 1 ≡ p + length (history_line n (take k (drop start s))) = omega (arith, length_line n (take k (drop start s))) in
          record {
            text = take k (drop start s);
            free = f;
            place = sym l ∙ rw (sym z, w, sym o);
            stands = rw (regroup n (take k (drop start s)) (drop line.after s))
                (e ∙ ap (λ (m : List ℕ). mark n ++ m) (cut ∙ ap (λ (m : List ℕ). take k (drop start s) ++ (10 ∷ m)) (drop-drop (k + 1) start s ∙ ap (λ (j : ℕ). drop j s) after)));
          }

      go : (b : Bool) → ltb (start + before 10 (drop start s)) (length s) ≡ b
          → cond b (Some (record { text = record { offset = start; length = before 10 (drop start s) }; after = start + before 10 (drop start s) + 1 })) None ≡ Some line
          → LineThere n s p line
      go false h g = absurd (none-line line g)
      go true h g = there (before 10 (drop start s)) (before_free 10 (drop start s)) (ltb-true (start + before 10 (drop start s)) (length s) h)
          (before-cut 10 (drop start s) (omega (arith, length-drop start s, ltb-true (start + before 10 (drop start s)) (length s) h))) g

  pub line-there : (line : HistoryLine) → line_at n s p ≡ Some line → LineThere n s p line
  unfolding line_at ended_after
  line-there line q = go (after_text (mark n) s p) refl q
    where
      go : (x : Option ℕ) → after_text (mark n) s p ≡ x → ended_after s x ≡ Some line → LineThere n s p line
      go None e h = absurd (none-line line h)
      go (Some start) e h = let m = text_there (mark n) s p start e in ended-there start line m.0 m.1 h

  -- what stands at a place is found there
  module _ (t r : List ℕ) (stands : drop p s ≡ history_line n t ++ r) where
    text-starts : drop (p + length (decimal n) + 1) s ≡ t ++ (10 ∷ r)
    text-starts =
        let e : p + length (mark n) ≡ p + length (decimal n) + 1 = omega (arith, mark-length n) in
        rw (sym e, sym (drop-drop (length (mark n)) p s), stands, regroup n t r, drop-append_seam (mark n) (t ++ (10 ∷ r)))

    pub line-text : part_at s (text_place n t p).text ≡ t
    line-text = rw (text-starts, take-append_seam t (10 ∷ r))

    pub line-rest : drop (p + length (history_line n t)) s ≡ r
    line-rest = rw (sym (drop-drop (length (history_line n t)) p s), stands, drop-append_seam (history_line n t) r)

    pub line-here : Free 10 t → line_at n s p ≡ Some (text_place n t p)
    unfolding line_at ended_after ended_at
    line-here f =
        let o : p + length (mark n) ≡ p + length (decimal n) + 1 = omega (arith, mark-length n) in
        let z : p + length (history_line n t) ≡ p + length (decimal n) + 1 + length t + 1 = omega (arith, length_line n t) in
        let g = ap length text-starts in
        let less : p + length (decimal n) + 1 + length t < length s =
        omega (arith, g, length-drop (p + length (decimal n) + 1) s, length-append t (10 ∷ r)) in
        rw (
          text_here (mark n) s (t ++ (10 ∷ r)) p (stands ∙ regroup n t r),
          o,
          text-starts,
          free_before 10 t r f,
          lt-ltb (p + length (decimal n) + 1 + length t) (length s) less,
          z,
        )
