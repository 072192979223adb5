-- The fault of an end of a placement, or of a cell, is the number of its row that comes first: its name and its number, by its kind. Assumes nothing.
use Prim.Native.Nat.{ℕ, zero, suc, ◌≤◌, ◌<◌}
use mathlib.Core.Path.{◌≡◌, refl, sym, ap, ◌∙◌, subst}
use mathlib.Core.List.{List, []}
use mathlib.Core.Bool.{Bool, true, false, cond}
use mathlib.Core.Logic.{◌⊎◌, inl, inr, ⊎_elim}
use native.Mathlib.Omega.{arith}
use lib.Dec.{lit<}
use lib.IntN.{pos}
use lib.ListN.{get_or}
use borrow.Author.Tests.{ne_eqb}
use Rattle.text.specs.Split.{same, index}
use Rattle.text.proofs.Which.{same_equal, unequal, index_word}
use Rattle.sheet_forms.specs.Words.{at, dash, nought, end_words}
use Rattle.sheet_forms.specs.Faults.{first_of}
use Rattle.sheet_forms.specs.Fields.{word_of, name_fault}
use Rattle.sheet_forms.specs.Ends.{end_kind, unused_name, uses_name, end_name, end_number, faulty_number, end_within}
use Rattle.sheet_forms.specs.Forms.{an_end, InNameRange, Whole, OutsideIndexes, OutsideCounts, OutsideRange, is_named, is_nspan, EndForm, auto, line, named, span, nspan}
use Rattle.sheet_forms.specs.Rows.{Row, unread, bad_name, bad_value, bad_count, bad_area, First, CountOutside}
use Rattle.sheet_forms.proofs.Firsts.{first_left, first_one, firsts, first-same, at_none, at-unread, at_name}
use Rattle.sheet_forms.proofs.FieldRows.{below_or, word_good, word_value, word_bad, name_range, never, counted_rows, count-counted, index-counted}
use Rattle.sheet_forms.proofs.PartRows.{PartHolds}

-- ---- the name

abbrev NameForm : Bool → List ℕ → Type 0
NameForm true f = Unit {0}
NameForm false f = f ≡ dash

abbrev NameRow : Bool → List ℕ → Type 0
NameRow true f = InNameRange f → ⊥
NameRow false f = ⊥

abbrev NameHolds : Bool → List ℕ → Row → Type 0
NameHolds u f unread = NameForm u f → ⊥
NameHolds u f bad_name = NameRow u f
NameHolds u f bad_value = ⊥
NameHolds u f bad_count = ⊥
NameHolds u f bad_area = ⊥

end_name_first : (used : Bool) (f : List ℕ) → First (NameHolds used f) (cond used (name_fault f) (unused_name f))
end_name_first true f =
    ⊎_elim
    (λ (e, n). at_none e (λ u. u tt) (λ h. h n) never never never)
    (λ (e, h). at_name e h (λ u. u tt))
    (name_range f)
end_name_first false f = go (same f dash) refl
  where
    go : (t : Bool) → same f dash ≡ t → First (NameHolds false f) (cond t 0 1)
    go true e = at_none refl (λ u. u (same_equal f dash e)) never never never never
    go false e = at-unread refl (unequal f dash e)

-- ---- the number

abbrev NumberForm : ℕ → List ℕ → Type 0
NumberForm zero f = f ≡ nought
NumberForm (suc j) f = Whole f

abbrev NumberRow : ℕ → ℕ → ℕ → List ℕ → Type 0
NumberRow least most zero f = ⊥
NumberRow least most (suc zero) f = OutsideIndexes f
NumberRow least most (suc (suc zero)) f = OutsideIndexes f
NumberRow least most (suc (suc (suc zero))) f = OutsideRange (pos least) (pos most) f
NumberRow least most (suc (suc (suc (suc j)))) f = OutsideCounts f

abbrev NumberHolds : ℕ → ℕ → ℕ → List ℕ → Row → Type 0
NumberHolds least most j f unread = NumberForm j f → ⊥
NumberHolds least most j f bad_name = ⊥
NumberHolds least most j f bad_value = ⊥
NumberHolds least most j f bad_count = NumberRow least most j f
NumberHolds least most j f bad_area = ⊥

module _ (least most : ℕ) where
  end_number_first : (j : ℕ) (f : List ℕ) → First (NumberHolds least most j f) (end_number least most j f).fault
  unfolding end_number
  end_number_first zero f = go (same f nought) refl
    where
      go : (t : Bool) → same f nought ≡ t → First (NumberHolds least most zero f) (cond t (faulty_number 0) (faulty_number 1)).fault
      go true e = at_none refl (λ u. u (same_equal f nought e)) never never never never
      go false e = at-unread refl (unequal f nought e)
  end_number_first (suc zero) f = counted_rows (λ x. x) (λ x. x) (λ x. x) (λ x. x) never never never (index-counted f)
  end_number_first (suc (suc zero)) f = counted_rows (λ x. x) (λ x. x) (λ x. x) (λ x. x) never never never (index-counted f)
  end_number_first (suc (suc (suc zero))) f = counted_rows (λ x. x) (λ x. x) (λ x. x) (λ x. x) never never never (count-counted least most f)
  end_number_first (suc (suc (suc (suc j)))) f =
      rw (
        ne_eqb (suc (suc (suc (suc j)))) 0 (λ e. omega arith),
        ne_eqb (suc (suc (suc (suc j)))) 1 (λ e. omega arith),
        ne_eqb (suc (suc (suc (suc j)))) 2 (λ e. omega arith),
        ne_eqb (suc (suc (suc (suc j)))) 3 (λ e. omega arith),
      )
      (counted_rows (λ x. x) (λ x. x) (λ x. x) (λ x. x) never never never (count-counted 0 65535 f))

-- ---- the kind

end-place : (j : ℕ) → j < 5 → index (get_or end_words j []) end_words ≡ j
unfolding index same
end-place zero h = refl
end-place (suc zero) h = refl
end-place (suc (suc zero)) h = refl
end-place (suc (suc (suc zero))) h = refl
end-place (suc (suc (suc (suc zero)))) h = refl
end-place (suc (suc (suc (suc (suc j))))) h = absurd (omega arith)

end-index : (f : List ℕ) (j : ℕ) → j < 5 → f ≡ get_or end_words j [] → index f end_words ≡ j
end-index f j h e = ap (λ (l : List ℕ). index l end_words) e ∙ end-place j h

-- an end of kind j: its form and its rows are those of its name and its number
module _ (fs : List (List ℕ)) (k j : ℕ) (h : j < 5) (e : at fs k ≡ get_or end_words j []) where
  is : (i : ℕ) → i < 5 → at fs k ≡ get_or end_words i [] → i ≡ j
  is i l q = sym (end-index (at fs k) i l q) ∙ end-index (at fs k) j h e

  form-name : {n m : List ℕ} → EndForm (at fs k) n m → NameForm (uses_name j) n
  form-name {n} (auto q d z) = subst (λ (i : ℕ). NameForm (uses_name i) n) (is 0 (lit< tt) q) d
  form-name {n} (line q d w) = subst (λ (i : ℕ). NameForm (uses_name i) n) (is 1 (lit< tt) q) d
  form-name {n} (named q w) = subst (λ (i : ℕ). NameForm (uses_name i) n) (is 2 (lit< tt) q) tt
  form-name {n} (span q d w) = subst (λ (i : ℕ). NameForm (uses_name i) n) (is 3 (lit< tt) q) d
  form-name {n} (nspan q w) = subst (λ (i : ℕ). NameForm (uses_name i) n) (is 4 (lit< tt) q) tt

  form-number : {n m : List ℕ} → EndForm (at fs k) n m → NumberForm j m
  form-number {m = m} (auto q d z) = subst (λ (i : ℕ). NumberForm i m) (is 0 (lit< tt) q) z
  form-number {m = m} (line q d w) = subst (λ (i : ℕ). NumberForm i m) (is 1 (lit< tt) q) w
  form-number {m = m} (named q w) = subst (λ (i : ℕ). NumberForm i m) (is 2 (lit< tt) q) w
  form-number {m = m} (span q d w) = subst (λ (i : ℕ). NumberForm i m) (is 3 (lit< tt) q) w
  form-number {m = m} (nspan q w) = subst (λ (i : ℕ). NumberForm i m) (is 4 (lit< tt) q) w

  name-row : {n : List ℕ} → (is_named (at fs k) ⊎ is_nspan (at fs k)) × (InNameRange n → ⊥) → NameRow (uses_name j) n
  name-row {n} (inl q, r) = subst (λ (i : ℕ). NameRow (uses_name i) n) (is 2 (lit< tt) q) r
  name-row {n} (inr q, r) = subst (λ (i : ℕ). NameRow (uses_name i) n) (is 4 (lit< tt) q) r

  number-row : (least most : ℕ) → CountOutside fs (an_end least most k) → NumberRow least most j (at fs (suc (suc k)))
  number-row least most (inl (inl q, r)) = subst (λ (i : ℕ). NumberRow least most i (at fs (suc (suc k)))) (is 1 (lit< tt) q) r
  number-row least most (inl (inr q, r)) = subst (λ (i : ℕ). NumberRow least most i (at fs (suc (suc k)))) (is 2 (lit< tt) q) r
  number-row least most (inr (inl (q, r))) = subst (λ (i : ℕ). NumberRow least most i (at fs (suc (suc k)))) (is 3 (lit< tt) q) r
  number-row least most (inr (inr (q, r))) = subst (λ (i : ℕ). NumberRow least most i (at fs (suc (suc k)))) (is 4 (lit< tt) q) r

-- the same the other way, kind by kind
form_made : (j : ℕ) (f n m : List ℕ) → j < 5 → f ≡ get_or end_words j [] → NameForm (uses_name j) n → NumberForm j m → EndForm f n m
form_made zero f n m h e d z = auto e d z
form_made (suc zero) f n m h e d w = line e d w
form_made (suc (suc zero)) f n m h e d w = named e w
form_made (suc (suc (suc zero))) f n m h e d w = span e d w
form_made (suc (suc (suc (suc zero)))) f n m h e d w = nspan e w
form_made (suc (suc (suc (suc (suc j))))) f n m h e d w = absurd (omega arith)

name_made : (j : ℕ) (f n : List ℕ) → j < 5 → f ≡ get_or end_words j [] → NameRow (uses_name j) n → (is_named f ⊎ is_nspan f) × (InNameRange n → ⊥)
name_made zero f n h e r = absurd r
name_made (suc zero) f n h e r = absurd r
name_made (suc (suc zero)) f n h e r = (inl e, r)
name_made (suc (suc (suc zero))) f n h e r = absurd r
name_made (suc (suc (suc (suc zero)))) f n h e r = (inr e, r)
name_made (suc (suc (suc (suc (suc j))))) f n h e r = absurd (omega arith)

module _ (least most : ℕ) (fs : List (List ℕ)) (k : ℕ) where
  number_made : (j : ℕ) → j < 5 → at fs k ≡ get_or end_words j [] → NumberRow least most j (at fs (suc (suc k))) → CountOutside fs (an_end least most k)
  number_made zero h e r = absurd r
  number_made (suc zero) h e r = inl (inl e, r)
  number_made (suc (suc zero)) h e r = inl (inr e, r)
  number_made (suc (suc (suc zero))) h e r = inr (inl (e, r))
  number_made (suc (suc (suc (suc zero)))) h e r = inr (inr (e, r))
  number_made (suc (suc (suc (suc (suc j))))) h e r = absurd (omega arith)

-- ---- an end

module _ (least most : ℕ) (fs : List (List ℕ)) (k j : ℕ) (h : j < 5) (e : at fs k ≡ get_or end_words j []) where
  abbrev EndHolds : Row → Type 0
  EndHolds r = NameHolds (uses_name j) (at fs (suc k)) r ⊎ NumberHolds least most j (at fs (suc (suc k))) r

  holds : (r : Row) → EndHolds r → PartHolds fs (an_end least most k) r
  holds unread (inl u) = λ f. u (form-name fs k j h e f)
  holds unread (inr u) = λ f. u (form-number fs k j h e f)
  holds bad_name (inl r) = name_made j (at fs k) (at fs (suc k)) h e r
  holds bad_name (inr r) = absurd r
  holds bad_value (inl r) = r
  holds bad_value (inr r) = r
  holds bad_count (inl r) = absurd r
  holds bad_count (inr r) = number_made least most fs k j h e r
  holds bad_area (inl r) = r
  holds bad_area (inr r) = r

  holds_not : (r : Row) → (EndHolds r → ⊥) → PartHolds fs (an_end least most k) r → ⊥
  holds_not unread n u = n (inl (λ d. n (inr (λ w. u (form_made j (at fs k) (at fs (suc k)) (at fs (suc (suc k))) h e d w)))))
  holds_not bad_name n r = n (inl (name-row fs k j h e r))
  holds_not bad_value n r = r
  holds_not bad_count n r = n (inr (number-row fs k j h e least most r))
  holds_not bad_area n r = r

  end_known : First (PartHolds fs (an_end least most k)) (first_of (end_name j (at fs (suc k))) (end_number least most j (at fs (suc (suc k)))).fault)
  unfolding end_name
  end_known = first-same holds holds_not (firsts (end_name_first (uses_name j) (at fs (suc k))) (end_number_first least most j (at fs (suc (suc k)))))

no_form : (f n m : List ℕ) → 5 ≤ index f end_words → EndForm f n m → ⊥
no_form f n m h (auto q d z) = omega (arith, end-index f 0 (lit< tt) q)
no_form f n m h (line q d w) = omega (arith, end-index f 1 (lit< tt) q)
no_form f n m h (named q w) = omega (arith, end-index f 2 (lit< tt) q)
no_form f n m h (span q d w) = omega (arith, end-index f 3 (lit< tt) q)
no_form f n m h (nspan q w) = omega (arith, end-index f 4 (lit< tt) q)

module _ (least most : ℕ) where
  -- an end's fault where its kind's word is the j-th
  known_fault : (f n m : List ℕ) (j : ℕ) → j < 5 → index f end_words ≡ j → (end_within least most f n m).fault ≡ first_of (end_name j n) (end_number least most j m).fault
  unfolding end_within end_kind
  known_fault f n m j h e = rw (e, word_value 5 j h) (first_left (word_of 5 j).fault (first_of (end_name j n) (end_number least most j m).fault) (word_good 5 j h))

  unknown_fault : (f n m : List ℕ) → 5 ≤ index f end_words → (end_within least most f n m).fault ≡ 1
  unfolding end_within end_kind
  unknown_fault f n m h = first_one (word_of 5 (index f end_words)).fault _ (word_bad 5 (index f end_words) h)

  pub end_first : (fs : List (List ℕ)) (k : ℕ) → First (PartHolds fs (an_end least most k)) (end_within least most (at fs k) (at fs (suc k)) (at fs (suc (suc k)))).fault
  end_first fs k =
      ⊎_elim
      (λ h. subst (First (PartHolds fs (an_end least most k))) (sym (known_fault (at fs k) (at fs (suc k)) (at fs (suc (suc k))) (index (at fs k) end_words) h refl))
      (end_known least most fs k (index (at fs k) end_words) h (index_word (at fs k) end_words h)))
      (λ h. at-unread (unknown_fault (at fs k) (at fs (suc k)) (at fs (suc (suc k))) h) (no_form (at fs k) (at fs (suc k)) (at fs (suc (suc k))) h))
      (below_or (index (at fs k) end_words) 5)
