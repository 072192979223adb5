-- The fault that a line's record says is the number of the row that holds of the line and comes first, 0 where none holds. Assumes nothing.
use Prim.Native.Nat.{ℕ, zero, suc, ◌≤◌, ◌<◌}
use mathlib.Core.Path.{◌≡◌, refl, sym, ap, ◌∙◌, subst}
use mathlib.Core.List.{List, []}
use mathlib.Core.Logic.{◌⊎◌, inl, inr, ⊎_elim, ◌↔◌}
use native.Mathlib.Omega.{arith}
use lib.ListN.{length, get_or}
use Rattle.text.specs.Split.{index}
use Rattle.text.proofs.Which.{index_word}
use Rattle.sheet_forms.specs.Said.{Record}
use Rattle.sheet_forms.specs.Words.{at, kind_words}
use Rattle.sheet_forms.specs.Faults.{rank_of, no_row, first_row}
use Rattle.sheet_forms.specs.Records.{record_of, fault_of}
use Rattle.sheet_forms.specs.Forms.{Kind, axis, area, name, track, repeat, end, spare, extra, item, place, row, cell, kind_number, Fields, parts_of, Of}
use Rattle.sheet_forms.specs.Rows.{Row, unread, bad_name, bad_value, bad_count, bad_area, number_of, Holds, First}
use Rattle.sheet_forms.proofs.Firsts.{numbers, first-same, first-unique, at-unread}
use Rattle.sheet_forms.proofs.FieldRows.{below_or}
use Rattle.sheet_forms.proofs.LineRows.{SomeHolds, parts_first, word-index, kind_below, kind_at, number_back_lem, same_kind_lem, line-holds, line-not}
use Rattle.sheet_forms.proofs.LineFaults.{line_of, fields-or, line_record, no_record, short-line, line_fault_lem}
use Rattle.sheet_forms.proofs.Bounds.{Bounded, fault_one, line_bounded}
use Rattle.sheet_forms.proofs.AreaRows.{area_first}

row_at : ℕ → Row
row_at zero = unread
row_at (suc zero) = unread
row_at (suc (suc zero)) = bad_name
row_at (suc (suc (suc zero))) = bad_value
row_at (suc (suc (suc (suc zero)))) = bad_count
row_at (suc (suc (suc (suc (suc n))))) = bad_area

row_back : (r : Row) → row_at (number_of r) ≡ r
unfolding row_at
row_back unread = refl
row_back bad_name = refl
row_back bad_value = refl
row_back bad_count = refl
row_back bad_area = refl

-- a line of a kind, by its fields
of_kind : (k : Kind) (fs : List (List ℕ)) → Of fs k → First (Holds fs) (fault_of (line_of k fs))
of_kind k fs of = ⊎_elim (λ e. is e) other (area_or k)
  where
    area_or : (k : Kind) → (k ≡ area) ⊎ (k ≡ area → ⊥)
    area_or axis = inr (λ e. omega (arith, ap kind_number e))
    area_or area = inl refl
    area_or name = inr (λ e. omega (arith, ap kind_number e))
    area_or track = inr (λ e. omega (arith, ap kind_number e))
    area_or repeat = inr (λ e. omega (arith, ap kind_number e))
    area_or end = inr (λ e. omega (arith, ap kind_number e))
    area_or spare = inr (λ e. omega (arith, ap kind_number e))
    area_or extra = inr (λ e. omega (arith, ap kind_number e))
    area_or item = inr (λ e. omega (arith, ap kind_number e))
    area_or place = inr (λ e. omega (arith, ap kind_number e))
    area_or row = inr (λ e. omega (arith, ap kind_number e))
    area_or cell = inr (λ e. omega (arith, ap kind_number e))

    is : k ≡ area → First (Holds fs) (fault_of (line_of k fs))
    is e = subst (λ (j : Kind). First (Holds fs) (fault_of (line_of j fs))) (sym e) (area_first fs (subst (Of fs) e of))

    no-area : (k ≡ area → ⊥) → (r : Row) → (SomeHolds fs (parts_of k) r → ⊥) → Holds fs r → ⊥
    no-area a unread n = line-not fs k of unread (λ e. omega (arith, ap number_of e)) n
    no-area a bad_name n = line-not fs k of bad_name (λ e. omega (arith, ap number_of e)) n
    no-area a bad_value n = line-not fs k of bad_value (λ e. omega (arith, ap number_of e)) n
    no-area a bad_count n = line-not fs k of bad_count (λ e. omega (arith, ap number_of e)) n
    no-area a bad_area n = λ (o, x). a (same_kind_lem fs k area of.word o.word)

    other : (k ≡ area → ⊥) → First (Holds fs) (fault_of (line_of k fs))
    other a = subst (First (Holds fs)) (sym (line_fault_lem k fs a of.fields)) (first-same (line-holds fs k of) (no-area a) (parts_first fs (parts_of k)))

of_word : (k : Kind) (fs : List (List ℕ)) → at fs 0 ≡ get_or kind_words (kind_number k) [] → First (Holds fs) (fault_of (record_of fs))
of_word k fs e = subst (λ (r : Record). First (Holds fs) (fault_of r)) (sym (line_record k fs e)) (go (fields-or k (length fs)))
  where
    go : Fields k (length fs) ⊎ (Fields k (length fs) → ⊥) → First (Holds fs) (fault_of (line_of k fs))
    go (inl h) = of_kind k fs (record { word = e; fields = h })
    go (inr h) = at-unread (short-line k fs h) (λ j o f. h (subst (λ (i : Kind). Fields i (length fs)) (same_kind_lem fs j k o.word e) o.fields))

of_none : (fs : List (List ℕ)) → 12 ≤ index (at fs 0) kind_words → First (Holds fs) (fault_of (record_of fs))
of_none fs h = at-unread (ap fault_of (no_record fs h)) (λ j o f. omega (arith, word-index fs j o.word, kind_below j))

-- the kind that the first field names, where it names one
abbrev kind_of : List (List ℕ) → Kind
kind_of fs = kind_at (index (at fs 0) kind_words)

named : (fs : List (List ℕ)) → index (at fs 0) kind_words < 12 → at fs 0 ≡ get_or kind_words (kind_number (kind_of fs)) []
named fs h = index_word (at fs 0) kind_words h ∙ ap (λ (i : ℕ). get_or kind_words i []) (sym (number_back_lem (index (at fs 0) kind_words) h))

-- every line
pub record_first : (fs : List (List ℕ)) → First (Holds fs) (fault_of (record_of fs))
record_first fs =
    ⊎_elim
    (λ h. of_word (kind_of fs) fs (named fs h))
    (of_none fs)
    (below_or (index (at fs 0) kind_words) 12)

-- a record says fault n exactly if n is the number of the row that comes first
pub fault_exactly : (fs : List (List ℕ)) (n : ℕ) → (fault_of (record_of fs) ≡ n) ↔ First (Holds fs) n
fault_exactly fs n = (λ e. subst (First (Holds fs)) e (record_first fs), first-unique (record_first fs))

-- a line is accepted by itself exactly if no row holds
pub accepted_exactly : (fs : List (List ℕ)) → (fault_of (record_of fs) ≡ 0) ↔ ((r : Row) → Holds fs r → ⊥)
accepted_exactly fs = (λ e. go e (record_first fs), λ h. first-unique (record_first fs) (no_row refl h))
  where
    go : {n : ℕ} → n ≡ 0 → First (Holds fs) n → (r : Row) → Holds fs r → ⊥
    go z (no_row e h) = h
    go {n} z (first_row r e h l) = absurd (numbers r (sym e ∙ z))

-- it is refused by a row's number exactly if that row holds and none that comes before it does
pub refused_exactly : (fs : List (List ℕ)) (r : Row)
    → (fault_of (record_of fs) ≡ number_of r) ↔ (Holds fs r × ((q : Row) → rank_of (number_of q) < rank_of (number_of r) → Holds fs q → ⊥))
refused_exactly fs r = (λ e. go e (record_first fs), λ (h, l). first-unique (record_first fs) (first_row r refl h l))
  where
    same_row : (p q : Row) → number_of p ≡ number_of q → p ≡ q
    same_row p q e = sym (row_back p) ∙ ap row_at e ∙ row_back q

    go : {n : ℕ} → n ≡ number_of r → First (Holds fs) n → Holds fs r × ((q : Row) → rank_of (number_of q) < rank_of (number_of r) → Holds fs q → ⊥)
    go {n} z (no_row e h) = absurd (numbers r (sym z ∙ e))
    go z (first_row p e h l) =
        subst (λ (x : Row). Holds fs x × ((q : Row) → rank_of (number_of q) < rank_of (number_of x) → Holds fs q → ⊥)) (same_row p r (sym e ∙ z)) (h, l)

-- a record's numbers and names are in their ranges, and a fault is never 0
pub record_bounded : (fs : List (List ℕ)) → Bounded fs (record_of fs)
record_bounded fs =
    ⊎_elim
    (λ h. subst (Bounded fs) (sym (line_record (kind_of fs) fs (named fs h))) (line_bounded (kind_of fs) fs))
    (λ h. subst (Bounded fs) (sym (no_record fs h)) fault_one)
    (below_or (index (at fs 0) kind_words) 12)
