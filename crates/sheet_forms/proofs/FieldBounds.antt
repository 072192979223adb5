-- What the fields of a record keep to once they are read: counts, names, repetitions, ends. Assumes nothing.
use Prim.Native.Nat.{ℕ, zero, suc, ◌≤◌, zero-le, suc-le-suc}
use mathlib.Core.Path.{◌≡◌, refl, sym, ap, ◌∙◌, subst}
use mathlib.Core.List.{List}
use mathlib.Core.Bool.{Bool, true, false, cond}
use mathlib.Core.Logic.{◌⊎◌, inl, inr, ⊎_elim}
use native.Mathlib.Omega.{arith}
use lib.Dec.{ltb, le→leb}
use lib.IntN.{ℤ, pos, negsuc}
use lib.Signed.{◌≤ℤ◌}
use borrow.Author.Tests.{ne_eqb, ltb-true, ltb-false}
use Rattle.text.specs.Split.{same, index}
use Rattle.std.specs.Prelude.{Ok, Err}
use Rattle.text.specs.declared.NumberFault.TheVariants.{Outside}
use Rattle.text.specs.Whole.{Written, none, whole, whole_of, count_in, index_in}
use Rattle.sheet_forms.specs.Said.{RepeatRecord}
use Rattle.sheet_forms.specs.Said.{PlaceEnd}
use Rattle.sheet_forms.specs.Words.{nought, end_words, repeat_words}
use Rattle.sheet_forms.specs.Faults.{first_of}
use Rattle.sheet_forms.specs.Fields.{good, faulty, word_of, count_field, count_of, repetition_at, repetition_of, name_fault}
use Rattle.sheet_forms.specs.Ends.{end_kind, uses_name, end_name, index_field, faulty_number, end_number, end_within}
use Rattle.sheet_forms.specs.Forms.{InNameRange}
use Rattle.sheet_forms.proofs.Codes.{count_most}
use Rattle.sheet_forms.proofs.Firsts.{first_zero}
use Rattle.sheet_forms.proofs.FieldRows.{name_range, Counted, unspelt, outside, inside, count-counted}

-- an end of a placement, or of a cell, with the field of its name
pub record EndBounded (f : List ℕ) (e : PlaceEnd) : Type 0 where
  pub kinds : e.kind ≤ 4
  pub named : uses_name e.kind ≡ true → InNameRange f
  pub least : negsuc 32767 ≤ℤ e.number
  pub most : e.number ≤ℤ pos 65535

pub record RepeatBounded (n : RepeatRecord) : Type 0 where
  pub faults : (n.fault ≡ 0) ⊎ (n.fault ≡ 4)
  pub kinds : n.kind ≤ 2
  pub most : n.number ≤ 65535

-- ---- fields

pub word-most : (n i : ℕ) → (word_of (suc n) i).value ≤ n
word-most n i = go (ltb i (suc n)) refl
  where
    go : (t : Bool) → ltb i (suc n) ≡ t → (cond t (good i) (faulty 1)).value ≤ n
    go true e = omega (arith, ltb-true i (suc n) e)
    go false e = zero-le

pub name-good : (f : List ℕ) → name_fault f ≡ 0 → InNameRange f
name-good f z = ⊎_elim (λ (e, n). n) (λ (e, n). absurd (omega arith)) (name_range f)

pub count_least : (least most : ℕ) (f : List ℕ) → (count_of least most f).fault ≡ 0 → least ≤ (count_of least most f).value
unfolding count_of count_in
count_least least most f = go (whole_of f)
  where
    ranged : (n : ℕ) (t u : Bool) → ltb n least ≡ t → (count_field (cond t (Err Outside) (cond u (Err Outside) (Ok n)))).fault ≡ 0
        → least ≤ (count_field (cond t (Err Outside) (cond u (Err Outside) (Ok n)))).value
    ranged n true u e z = absurd (omega arith)
    ranged n false true e z = absurd (omega arith)
    ranged n false false e z = ltb-false n least e

    go : (w : Written) → (count_field (count_in least most w)).fault ≡ 0 → least ≤ (count_field (count_in least most w)).value
    go none z = absurd (omega arith)
    go (whole (pos n)) z = ranged n (ltb n least) (ltb most n) refl z
    go (whole (negsuc k)) z = absurd (omega arith)

pub repetition_bounded : (f : List ℕ) → ((repetition_of f).fault ≡ 1 → ⊥) → RepeatBounded (repetition_of f)
unfolding repetition_of
repetition_bounded f = go (index f repeat_words)
  where
    counted : {n : ℕ} → Counted (pos 0) (pos 65535) f n → (n ≡ 1 → ⊥) → (n ≡ 0) ⊎ (n ≡ 4)
    counted (unspelt e u) h = absurd (h e)
    counted (outside e o) h = inr e
    counted (inside e w o) h = inl e

    more : (i : ℕ) → 2 ≤ i → repetition_at i (count_of 0 65535 f) ≡ record { fault = (count_of 0 65535 f).fault; kind = 0; number = (count_of 0 65535 f).value }
    more i h = rw (ne_eqb i 0 (λ e. omega arith), ne_eqb i 1 (λ e. omega arith))

    go : (i : ℕ) → ((repetition_at i (count_of 0 65535 f)).fault ≡ 1 → ⊥) → RepeatBounded (repetition_at i (count_of 0 65535 f))
    go zero h = record { faults = inl refl; kinds = suc-le-suc zero-le; most = zero-le }
    go (suc zero) h = record { faults = inl refl; kinds = suc-le-suc (suc-le-suc zero-le); most = zero-le }
    go (suc (suc i)) h =
        let e = more (suc (suc i)) (suc-le-suc (suc-le-suc zero-le)) in
        subst RepeatBounded (sym e)
        (record { faults = counted (count-counted 0 65535 f) (λ z. h (ap (λ (r : RepeatRecord). r.fault) e ∙ z)); kinds = zero-le; most = count_most 0 65535 f })

-- ---- ends

abbrev Between : ℤ → Type 0
Between z = (negsuc 32767 ≤ℤ z) × (z ≤ℤ pos 65535)

small : (n : ℕ) → n ≤ 65535 → Between (pos n)
small n h = (record { le = tt }, record { le = le→leb n 65535 h })

index-between : (f : List ℕ) → Between (index_field (index_in (whole_of f))).value
unfolding index_in
index-between f = go (whole_of f)
  where
    above : (n : ℕ) (t : Bool) → ltb 32767 n ≡ t → Between (index_field (cond t (Err Outside) (Ok (pos n)))).value
    above n true e = small 0 zero-le
    above n false e = small n (omega (arith, ltb-false 32767 n e))

    below : (k : ℕ) (t : Bool) → ltb 32767 k ≡ t → Between (index_field (cond t (Err Outside) (Ok (negsuc k)))).value
    below k true e = small 0 zero-le
    below k false e = (record { le = le→leb k 32767 (ltb-false 32767 k e) }, record { le = tt })

    go : (w : Written) → Between (index_field (index_in w)).value
    go none = small 0 zero-le
    go (whole (pos n)) = above n (ltb 32767 n) refl
    go (whole (negsuc k)) = below k (ltb 32767 k) refl

counted-between : (least most : ℕ) → most ≤ 65535 → (f : List ℕ) → Between (pos (count_of least most f).value)
counted-between least most few f = small _ (omega (arith, few, count_most least most f))

number_between : (least most : ℕ) → most ≤ 65535 → (j : ℕ) (f : List ℕ) → Between (end_number least most j f).value
unfolding end_number
number_between least most few zero f = go (same f nought)
  where
    go : (t : Bool) → Between (cond t (faulty_number 0) (faulty_number 1)).value
    go true = small 0 zero-le
    go false = small 0 zero-le
number_between least most few (suc zero) f = index-between f
number_between least most few (suc (suc zero)) f = index-between f
number_between least most few (suc (suc (suc zero))) f = counted-between least most few f
number_between least most few (suc (suc (suc (suc j)))) f =
    rw (
      ne_eqb (suc (suc (suc (suc j)))) 0 (λ e. omega arith),
      ne_eqb (suc (suc (suc (suc j)))) 1 (λ e. omega arith),
      ne_eqb (suc (suc (suc (suc j)))) 2 (λ e. omega arith),
      ne_eqb (suc (suc (suc (suc j)))) 3 (λ e. omega arith),
    )
    (counted-between 0 65535 (omega arith) f)

name_used : (j : ℕ) (f : List ℕ) → end_name j f ≡ 0 → uses_name j ≡ true → InNameRange f
unfolding end_name
name_used j f z u = name-good f (rw u at z)

pub end_bounded : (least most : ℕ) → most ≤ 65535 → (f n m : List ℕ) → (end_within least most f n m).fault ≡ 0 → EndBounded n (end_within least most f n m).end
unfolding end_within end_kind
end_bounded least most few f n m z =
    let v = (word_of 5 (index f end_words)).value in
    let z1 = (first_zero (end_kind f).fault (first_of (end_name v n) (end_number least most v m).fault) z).1 in
    let z2 = (first_zero (end_name v n) (end_number least most v m).fault z1).0 in
    let b = number_between least most few v m in
    record { kinds = word-most 4 (index f end_words); named = name_used v n z2; least = b.0; most = b.1 }
