-- The texts of the first lines of a history are found exactly where those lines stand. Assumes nothing.
use Rattle.std.proofs.Common.{ℕ, zero, suc, ◌+◌, ◌*◌, ◌≤◌, ◌≡◌, List, [], ◌∷◌, ◌++◌, length, drop, refl, sym, ap, ◌∙◌, arith, append_assoc, length-append}
use Rattle.std.specs.Prelude.{Option, Some, None}
use Rattle.std.proofs.lemmas.Option.{none-some, same_Some}
use Rattle.text.specs.Places.{part_at}
use Rattle.text.proofs.Cut.{AllFree}
use Rattle.history_lines.specs.declared.HistoryLine.{HistoryLine}
use Rattle.history_lines.specs.Lines.{history_line, history_of}
use Rattle.history_lines.specs.Found.{line_at}
use Rattle.history_lines.proofs.Exactly.{LineThere, line-there, line-text, line-rest, line-here}
use Rattle.history_lines.proofs.Steps.{length_line}
use Rattle.panel_history.specs.History.{onto, text_before, texts_from, first_texts}

-- ---- texts that are found

-- texts whose lines stand one after the other from a place on
pub record TextsThere (k n : ℕ) (s : List ℕ) (p : ℕ) (texts : List (List ℕ)) : Type 0 where
  pub many : length texts ≡ k
  pub free : AllFree 10 texts
  pub stands : drop p s ≡ history_of n texts ++ drop (p + length (history_of n texts)) s

-- one before them
module _ (k n : ℕ) (s : List ℕ) (p : ℕ) (line : HistoryLine) (l : LineThere n s p line) where
  pub text-there : part_at s line.text ≡ l.text
  text-there = ap (λ (x : HistoryLine). part_at s x.text) l.place ∙ line-text n s p l.text (drop line.after s) l.stands

  texts_onto : (texts : List (List ℕ)) → TextsThere k (suc n) s line.after texts → TextsThere (suc k) n s p (part_at s line.text ∷ texts)
  unfolding history_of
  texts_onto texts m =
      let a : line.after ≡ p + length (history_line n l.text) = ap (λ (x : HistoryLine). x.after) l.place in
      let e : line.after + length (history_of (suc n) texts) ≡ p + length (history_line n l.text ++ history_of (suc n) texts) =
      omega (arith, a, length-append (history_line n l.text) (history_of (suc n) texts)) in
      rw text-there
      (record {
        many = ap suc m.many;
        free = (l.free, m.free);
        stands = l.stands ∙ ap (λ (x : List ℕ). history_line n l.text ++ x) (m.stands ∙ ap (λ (j : ℕ). history_of (suc n) texts ++ drop j s) e)
            ∙ sym (append_assoc (history_line n l.text) (history_of (suc n) texts) (drop (p + length (history_line n l.text ++ history_of (suc n) texts)) s));
      })

pub texts-there : (k n : ℕ) (s : List ℕ) (p : ℕ) (texts : List (List ℕ)) → texts_from k n s p ≡ Some texts → TextsThere k n s p texts
unfolding texts_from history_of
texts-there zero n s p texts e =
    let i : [] ≡ texts = same_Some [] texts e in
    let z : p + 0 ≡ p = omega arith in
    rw (← i) (record { many = refl; free = tt; stands = ap (λ (j : ℕ). drop j s) (sym z) })
texts-there (suc k) n s p texts e = go (line_at n s p) refl (texts-there k (suc n) s) e
  where
    go : (x : Option HistoryLine) → line_at n s p ≡ x → ((a : ℕ) (ts : List (List ℕ)) → texts_from k (suc n) s a ≡ Some ts → TextsThere k (suc n) s a ts)
        → text_before s (texts_from k (suc n) s) x ≡ Some texts → TextsThere (suc k) n s p texts
    go None h i g = absurd (none-some texts g)
    go (Some line) h i g = rest (texts_from k (suc n) s line.after) refl g
      where
        rest : (y : Option (List (List ℕ))) → texts_from k (suc n) s line.after ≡ y → onto (part_at s line.text) y ≡ Some texts → TextsThere (suc k) n s p texts
        rest None q r = absurd (none-some texts r)
        rest (Some ts) q r =
            rw (← same_Some (part_at s line.text ∷ ts) texts r) (texts_onto k n s p line (line-there n s p line h) ts (i line.after ts q))

-- texts whose lines stand are found
pub texts-here : (texts : List (List ℕ)) (n : ℕ) (s : List ℕ) (p : ℕ) (r : List ℕ) → AllFree 10 texts → drop p s ≡ history_of n texts ++ r
    → texts_from (length texts) n s p ≡ Some texts
unfolding texts_from history_of
texts-here [] n s p r f e = refl
texts-here (t ∷ ts) n s p r f e =
    let there : drop p s ≡ history_line n t ++ (history_of (suc n) ts ++ r) = e ∙ append_assoc (history_line n t) (history_of (suc n) ts) r in
    go there (texts-here ts (suc n) s (p + length (history_line n t)) r f.1)
  where
    go : drop p s ≡ history_line n t ++ (history_of (suc n) ts ++ r)
        → (drop (p + length (history_line n t)) s ≡ history_of (suc n) ts ++ r → texts_from (length ts) (suc n) s (p + length (history_line n t)) ≡ Some ts)
        → text_before s (texts_from (length ts) (suc n) s) (line_at n s p) ≡ Some (t ∷ ts)
    go there i =
        rw (
          line-here n s p t (history_of (suc n) ts ++ r) there f.0,
          line-text n s p t (history_of (suc n) ts ++ r) there,
          i (line-rest n s p t (history_of (suc n) ts ++ r) there),
        )

-- ---- from the first byte on

module _ (k : ℕ) (s : List ℕ) (texts : List (List ℕ)) (found : first_texts k s ≡ Some texts) where
  there : TextsThere k 1 s 0 texts
  there = texts-there k 1 s 0 texts found

  pub texts-many : length texts ≡ k
  texts-many = there.many

  -- the bytes begin with their history
  pub texts-stand : s ≡ history_of 1 texts ++ drop (length (history_of 1 texts)) s
  texts-stand =
      let z : 0 + length (history_of 1 texts) ≡ length (history_of 1 texts) = omega arith in
      there.stands ∙ ap (λ (j : ℕ). history_of 1 texts ++ drop j s) z

-- ---- how many they are

-- a line has more than two bytes
history_long : (n : ℕ) (texts : List (List ℕ)) → 2 * length texts ≤ length (history_of n texts)
unfolding history_of
history_long n [] = omega arith
history_long n (t ∷ ts) = omega (arith, history_long (suc n) ts, length-append (history_line n t) (history_of (suc n) ts), length_line n t)

-- so that the number of the next line is one of 64 bits, of however many bytes
pub texts-few : (k : ℕ) (s : List ℕ) (texts : List (List ℕ)) → first_texts k s ≡ Some texts → 2 * k ≤ length s
texts-few k s texts found =
    omega (
      arith,
      history_long 1 texts,
      texts-many k s texts found,
      ap length (texts-stand k s texts found),
      length-append (history_of 1 texts) (drop (length (history_of 1 texts)) s),
    )
