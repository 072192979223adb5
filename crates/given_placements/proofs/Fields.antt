-- The fields of a `place` line are refused as a placement by argument is, and write its ends. Assumes nothing.
use Prim.Native.Nat.{ℕ, zero, suc, ◌≤◌, ◌<◌}
use mathlib.Core.Path.{◌≡◌, refl, sym, ap, ◌∙◌}
use mathlib.Core.Bool.{Bool, true, false, cond, not, ◌||◌, true≢false}
use mathlib.Core.List.{List}
use native.Mathlib.Omega.{arith}
use borrow.Author.Tests.{ltb-true, ltb-false, le-ltb, lt-leb, le-leb, eqb-true, eqb-false}
use lib.Dec.{eqb, ltb}
use lib.IntN.{ℤ, pos, negsuc}
use lib.ListN.{length}
use Rattle.text.specs.Split.{same, index}
use Rattle.std.specs.Prelude.{Ok, Err}
use Rattle.text.specs.Whole.{whole_of, whole, index_in, count_in}
use Rattle.text.specs.declared.NumberFault.TheVariants.{Outside}
use Rattle.sheet_forms.specs.Answers.{Field}
use Rattle.sheet_forms.specs.Fields.{good, faulty, word_of, count_field, count_of, name_fault}
use Rattle.sheet_forms.specs.Faults.{first_of, rank_of}
use Rattle.sheet_forms.specs.Words.{dash, nought, end_words}
use Rattle.sheet_forms.specs.Ends.{end_kind, end_name, end_number, index_field, span_field, end_within, end_of}
use Rattle.sheet_forms.proofs.Codes.{codes_all}
use Rattle.name_entries.specs.Names.{is_name}
use Rattle.panel_tables.specs.View.{End}
use Rattle.sheet_rules.specs.Lines.{placed_end}
use Rattle.given_placements.specs.Ends.{index_outside, span_outside, is_outside, is_unnamed, given_fault, used_end}
use Rattle.given_placements.specs.Fields.{SaysEnd, FieldsTheorem}

-- ---- a name, and a number
some_length : (k : ℕ) → (k ≡ 0 → ⊥) → 1 ≤ k
some_length zero n = absurd (n refl)
some_length (suc k) n = omega arith

name-told : (f : List ℕ) → name_fault f ≡ cond (is_name f) 0 2
unfolding name_fault is_name
name-told f = go (eqb (length f) 0) (ltb 32 (length f)) refl refl
  where
    go : (a b : Bool) → eqb (length f) 0 ≡ a → ltb 32 (length f) ≡ b → name_fault f ≡ cond (is_name f) 0 2
    go true b x y = rw (x, lt-leb 1 (length f) (omega (arith, eqb-true (length f) 0 x)))
    go false true x y = rw (x, y, lt-leb (length f) 32 (ltb-true 32 (length f) y), le-leb 1 (length f) (omega (arith, ltb-true 32 (length f) y)))
    go false false x y =
        let some : 1 ≤ length f = some_length (length f) (eqb-false (length f) 0 x) in
        rw (x, y, le-leb 1 (length f) some, le-leb (length f) 32 (ltb-false 32 (length f) y), codes_all f)

index-fault : (z : ℤ) → (index_field (index_in (whole z))).fault ≡ cond (index_outside z) 4 0
unfolding index_in
index-fault (pos n) = go (ltb 32767 n)
  where
    go : (b : Bool) → (index_field (cond b (Err Outside) (Ok (pos n)))).fault ≡ cond b 4 0
    go true = refl
    go false = refl
index-fault (negsuc k) = go (ltb 32767 k)
  where
    go : (b : Bool) → (index_field (cond b (Err Outside) (Ok (negsuc k)))).fault ≡ cond b 4 0
    go true = refl
    go false = refl

index-value : (z : ℤ) → index_outside z ≡ false → (index_field (index_in (whole z))).value ≡ z
unfolding index_in
index-value (pos n) e = rw e
index-value (negsuc k) e = rw e

span-fault : (m : List ℕ) (z : ℤ) → whole_of m ≡ whole z → (span_field (count_of 0 65535 m)).fault ≡ cond (span_outside z) 4 0
unfolding count_of count_in
span-fault m (pos n) w = rw (w, le-ltb n 0 (omega arith)) (go (ltb 65535 n))
  where
    go : (b : Bool) → (span_field (count_field (cond b (Err Outside) (Ok n)))).fault ≡ cond b 4 0
    go true = refl
    go false = refl
span-fault m (negsuc k) w = rw w

span-value : (m : List ℕ) (z : ℤ) → whole_of m ≡ whole z → span_outside z ≡ false → (span_field (count_of 0 65535 m)).value ≡ z
unfolding count_of count_in
span-value m (pos n) w e = rw (w, le-ltb n 0 (omega arith), e)
span-value m (negsuc k) w e = absurd (true≢false e)

-- the lower of both
told : (a b : Bool) → first_of (cond a 0 2) (cond b 4 0) ≡ cond (not a) 2 (cond b 4 0)
unfolding first_of rank_of
told true true = refl
told true false = refl
told false true = refl
told false false = refl

first-zero : (x : ℕ) → first_of 0 x ≡ x
unfolding first_of
first-zero x = refl

-- ---- an end
abbrev said : ℕ → ℤ → List ℕ → End
said k z nm = record { end = record { kind = k; number = z }; name = nm }

-- what three fields are refused by, and the end that they write
record Read (f n m : List ℕ) (e : End) : Type 0 where
  fault : (end_of f n m).fault ≡ cond (is_unnamed e) 2 (cond (is_outside e) 4 0)
  placed : is_unnamed e ≡ false → is_outside e ≡ false → placed_end n (end_of f n m).end ≡ used_end e

module _ (f n m : List ℕ) (z : ℤ) (nm : List ℕ) where
  read-auto : end_kind f ≡ good 0 → n ≡ dash → m ≡ nought → Read f n m (said 0 z nm)
  unfolding end_within end_name end_number first_of same
  read-auto k a b = record { fault = rw (k, a, b); placed = λ u o. rw (k, b) }

  read-line : end_kind f ≡ good 1 → n ≡ dash → whole_of m ≡ whole z → Read f n m (said 1 z nm)
  unfolding end_within end_name end_number first_of same
  read-line k a w = record { fault = rw (k, a, w) (index-fault z); placed = λ u o. rw (k, w, index-value z o) }

  read-named : end_kind f ≡ good 2 → n ≡ nm → whole_of m ≡ whole z → Read f n m (said 2 z nm)
  unfolding end_within end_name end_number
  read-named k a w =
      record { fault = rw (k, a, w, name-told nm, index-fault z) (first-zero _ ∙ told (is_name nm) (index_outside z)); placed = λ u o. rw (k, a, w, index-value z o) }

  read-span : end_kind f ≡ good 3 → n ≡ dash → whole_of m ≡ whole z → Read f n m (said 3 z nm)
  unfolding end_within end_name end_number first_of same
  read-span k a w = record { fault = rw (k, a) (span-fault m z w); placed = λ u o. rw (k, span-value m z w o) }

  read-named-span : end_kind f ≡ good 4 → n ≡ nm → whole_of m ≡ whole z → Read f n m (said 4 z nm)
  unfolding end_within end_name end_number
  read-named-span k a w =
      record { fault = rw (k, a, name-told nm, span-fault m z w) (first-zero _ ∙ told (is_name nm) (span_outside z)); placed = λ u o. rw (k, a, span-value m z w o) }

-- there are five words
word-below : (i k : ℕ) → word_of 5 i ≡ good k → k < 5
word-below i k = go (ltb i 5) refl
  where
    go : (b : Bool) → ltb i 5 ≡ b → cond b (good i) (faulty 1) ≡ good k → k < 5
    go true t e = let q : i ≡ k = ap (λ (x : Field). x.value) e in omega (arith, q, ltb-true i 5 t)
    go false t e = let q : ◌≡◌ {A = ℕ} 1 0 = ap (λ (x : Field). x.fault) e in absurd (omega (arith, q))

no-word : (f : List ℕ) (k : ℕ) → end_kind f ≡ good k → k < 5
unfolding end_kind
no-word f k e = word-below (index f end_words) k e

end-read : (f n m : List ℕ) (k : ℕ) (z : ℤ) (nm : List ℕ) → SaysEnd f n m (said k z nm) → Read f n m (said k z nm)
end-read f n m zero z nm s = read-auto f n m z nm s.kind_said s.name_said (s.none_said refl)
end-read f n m (suc zero) z nm s = read-line f n m z nm s.kind_said s.name_said (s.number_said (λ e. omega (arith, e)))
end-read f n m (suc (suc zero)) z nm s = read-named f n m z nm s.kind_said s.name_said (s.number_said (λ e. omega (arith, e)))
end-read f n m (suc (suc (suc zero))) z nm s = read-span f n m z nm s.kind_said s.name_said (s.number_said (λ e. omega (arith, e)))
end-read f n m (suc (suc (suc (suc zero)))) z nm s = read-named-span f n m z nm s.kind_said s.name_said (s.number_said (λ e. omega (arith, e)))
end-read f n m (suc (suc (suc (suc (suc k))))) z nm s = absurd (omega (arith, no-word f (suc (suc (suc (suc (suc k))))) s.kind_said))

-- ---- both ends
both-told : (a b c d : Bool) → cond (a || c) 2 (cond (b || d) 4 0) ≡ first_of (cond a 2 (cond b 4 0)) (cond c 2 (cond d 4 0))
unfolding first_of rank_of
both-told true b true d = refl
both-told true b false true = refl
both-told true b false false = refl
both-told false true true d = refl
both-told false true false true = refl
both-told false true false false = refl
both-told false false true d = refl
both-told false false false true = refl
both-told false false false false = refl

parts-false : (a b c d : Bool) → ◌≡◌ {A = ℕ} (cond (a || c) 2 (cond (b || d) 4 0)) 0 → ((a ≡ false) × (b ≡ false)) × ((c ≡ false) × (d ≡ false))
parts-false true b c d e = absurd (omega (arith, e))
parts-false false b true d e = absurd (omega (arith, e))
parts-false false true false d e = absurd (omega (arith, e))
parts-false false false false true e = absurd (omega (arith, e))
parts-false false false false false e = ((refl, refl), (refl, refl))

module _ (axis : ℕ) (few : axis ≤ 1) (s e : End) where
  fault-is : given_fault axis s e ≡ cond (is_unnamed s || is_unnamed e) 2 (cond (is_outside s || is_outside e) 4 0)
  unfolding given_fault
  fault-is = rw (le-ltb 1 axis few)

  pub fields-theorem : (f n m g o p : List ℕ) → SaysEnd f n m s → SaysEnd g o p e → FieldsTheorem axis s e f n m g o p
  fields-theorem f n m g o p first last =
      let a = end-read f n m s.end.kind s.end.number s.name first in
      let b = end-read g o p e.end.kind e.end.number e.name last in
      record {
        fault = fault-is ∙ both-told (is_unnamed s) (is_outside s) (is_unnamed e) (is_outside e) ∙ sym (rw (a.fault, b.fault));
        start = λ z. let k = parts-false (is_unnamed s) (is_outside s) (is_unnamed e) (is_outside e) (sym fault-is ∙ z) in a.placed k.0.0 k.0.1;
        end = λ z. let k = parts-false (is_unnamed s) (is_outside s) (is_unnamed e) (is_outside e) (sym fault-is ∙ z) in b.placed k.1.0 k.1.1;
      }
