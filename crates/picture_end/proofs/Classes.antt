-- What a line is to a picture, by the number of its first field's kind. Assumes nothing.
use Prim.Native.Nat.{ℕ, zero, suc, ◌+◌, ◌≤◌}
use mathlib.Core.Path.{◌≡◌, refl, sym, ap, ◌∙◌}
use mathlib.Core.List.{List, []}
use mathlib.Core.Bool.{Bool, true, false, cond, ◌&&◌, ◌||◌}
use native.Mathlib.Omega.{arith}
use lib.Dec.{eqb, leb}
use lib.ListN.{length, get_or}
use borrow.Author.Tests.{eq-eqb, ne_eqb}
use Rattle.text.specs.Split.{before, split, same, index}
use Rattle.text.proofs.Places.{parts_whole, parts_next}
use Rattle.text.proofs.Which.{same_equal, unequal, index_word}
use Rattle.sheet_forms.specs.Words.{at, kind_words}
use Rattle.sheet_forms.specs.Forms.{Kind, area, name, track, repeat, end, spare, extra, item, place, row, cell, kind_number}
use Rattle.sheet_forms.proofs.LineRows.{word-index, kind_below}
use Rattle.sheet_rules.specs.Kinds.{is_kind}
use Rattle.std.specs.Prelude.{Option, Some, None}
use Rattle.sheet_lines.specs.Fields.{line_kind_number as number_of_kind}
use Rattle.sheet_lines.specs.declared.kinds.LineKind.{LineKind}
use Rattle.sheet_lines.specs.declared.kinds.LineKind.TheVariants.{Axis, Area, Name, Track, Repeat, End, Spare, Extra, Item, Place, Row, Cell}
use Rattle.picture_end.specs.Steps.{class_of, fields_or_none, later_fields, row_by, class_by}

-- ---- by the kind's number

module _ (k n : ℕ) where
  pub class-row : (r : ℕ) → k ≡ 10 → r ≡ row_by n → r ≡ class_by k n
  unfolding class_by
  class-row r e f = rw (eq-eqb k 10 e) f

  pub class-later : (m : ℕ) → (k ≡ 10 → ⊥) → m ≡ later_fields k → n ≡ m → 2 ≡ class_by k n
  unfolding class_by
  class-later m e f g = rw (ne_eqb k 10 e, eq-eqb n (later_fields k) (g ∙ f))

  pub class-between : (m : ℕ) → (k ≡ 10 → ⊥) → m ≡ later_fields k → (n ≡ m → ⊥) → 0 ≡ class_by k n
  unfolding class_by
  class-between m e f g = rw (ne_eqb k 10 e, ne_eqb n (later_fields k) (λ z. g (z ∙ sym f)))

-- a number of fields that is not asked for
pub other_fields : (m : Option ℕ) (n : ℕ) → 1 ≤ n → (m ≡ Some n → ⊥) → n ≡ fields_or_none m → ⊥
other_fields None n h g e = omega (arith, e, h)
other_fields (Some k) n h g e = g (ap Some (sym e))

-- of a kind that is not the row's
not_row : (kind : LineKind) → (kind ≡ Row → ⊥) → number_of_kind (Some kind) ≡ 10 → ⊥
not_row Axis h e = absurd (omega arith)
not_row Area h e = absurd (omega arith)
not_row Name h e = absurd (omega arith)
not_row Track h e = absurd (omega arith)
not_row Repeat h e = absurd (omega arith)
not_row End h e = absurd (omega arith)
not_row Spare h e = absurd (omega arith)
not_row Extra h e = absurd (omega arith)
not_row Item h e = absurd (omega arith)
not_row Place h e = absurd (omega arith)
not_row Row h e = h refl
not_row Cell h e = absurd (omega arith)

-- by the kind itself
module _ (n : ℕ) (some : 1 ≤ n) where
  pub of_no_kind : 0 ≡ class_by (number_of_kind None) n
  unfolding later_fields
  of_no_kind = class-between 12 n 0 (λ e. omega (arith, e)) refl (λ e. omega (arith, e, some))

  module _ (kind : LineKind) (m : Option ℕ) (other : kind ≡ Row → ⊥) (asked : fields_or_none m ≡ later_fields (number_of_kind (Some kind))) where
    pub of_later : m ≡ Some n → 2 ≡ class_by (number_of_kind (Some kind)) n
    of_later e = class-later (number_of_kind (Some kind)) n (fields_or_none m) (not_row kind other) asked (sym (ap fields_or_none e))

    pub of_others : (m ≡ Some n → ⊥) → 0 ≡ class_by (number_of_kind (Some kind)) n
    of_others e = class-between (number_of_kind (Some kind)) n (fields_or_none m) (not_row kind other) asked (other_fields m n some e)

-- ---- by the fields of a line

-- a text has at least one part
pub parts-some : (b : ℕ) (s : List ℕ) → 1 ≤ length (split b s)
parts-some b s =
    let e : before b s ≡ 0 + before b s = omega arith in
    let h = ap length (sym (parts_whole b s) ∙ parts_next b s 0 (before b s) (omega arith) e) in
    omega (arith, h)

-- the first field is the word of a kind exactly if its place among the words is the kind's
kind_test : (fs : List (List ℕ)) (k : Kind) → same (at fs 0) (get_or kind_words (kind_number k) []) ≡ eqb (index (at fs 0) kind_words) (kind_number k)
kind_test fs k = go (same (at fs 0) (get_or kind_words (kind_number k) [])) refl
  where
    i : ℕ
    i = index (at fs 0) kind_words

    go : (t : Bool) → same (at fs 0) (get_or kind_words (kind_number k) []) ≡ t → t ≡ eqb (index (at fs 0) kind_words) (kind_number k)
    go true e = sym (eq-eqb (index (at fs 0) kind_words) (kind_number k) (word-index fs k (same_equal (at fs 0) (get_or kind_words (kind_number k) []) e)))
    go false e =
        sym (ne_eqb (index (at fs 0) kind_words) (kind_number k) (λ z. unequal (at fs 0) (get_or kind_words (kind_number k) []) e
        (index_word (at fs 0) kind_words (omega (arith, z, kind_below k)) ∙ ap (λ (j : ℕ). get_or kind_words j []) z)))

-- by the number of the kind
abbrev by_number : ℕ → ℕ → ℕ
by_number i n =
    cond (eqb i 10 && leb 2 n) 1
    (cond ((eqb i 1 && eqb n 6) || ((eqb i 2 && eqb n 3) || ((eqb i 3 && eqb n 6) || ((eqb i 4 && eqb n 3) || ((eqb i 5 && eqb n 2)
    || ((eqb i 6 && eqb n 6) || ((eqb i 7 && eqb n 4) || ((eqb i 8 && eqb n 3) || ((eqb i 9 && eqb n 8) || ((eqb i 11 && eqb n 13) || false)))))))))) 2 0)

or_false : (t : Bool) → ◌≡◌ {A = ℕ} (cond t 2 0) (cond (t || false) 2 0)
or_false true = refl
or_false false = refl

by_number_lem : (i n : ℕ) → 1 ≤ n → class_by i n ≡ by_number i n
unfolding class_by later_fields
by_number_lem zero n h = rw (ne_eqb n 0 (λ e. omega arith))
by_number_lem (suc zero) n h = or_false (eqb n 6)
by_number_lem (suc (suc zero)) n h = or_false (eqb n 3)
by_number_lem (suc (suc (suc zero))) n h = or_false (eqb n 6)
by_number_lem (suc (suc (suc (suc zero)))) n h = or_false (eqb n 3)
by_number_lem (suc (suc (suc (suc (suc zero))))) n h = or_false (eqb n 2)
by_number_lem (suc (suc (suc (suc (suc (suc zero)))))) n h = or_false (eqb n 6)
by_number_lem (suc (suc (suc (suc (suc (suc (suc zero))))))) n h = or_false (eqb n 4)
by_number_lem (suc (suc (suc (suc (suc (suc (suc (suc zero)))))))) n h = or_false (eqb n 3)
by_number_lem (suc (suc (suc (suc (suc (suc (suc (suc (suc zero))))))))) n h = or_false (eqb n 8)
by_number_lem (suc (suc (suc (suc (suc (suc (suc (suc (suc (suc zero)))))))))) n h = refl
by_number_lem (suc (suc (suc (suc (suc (suc (suc (suc (suc (suc (suc zero))))))))))) n h = or_false (eqb n 13)
by_number_lem (suc (suc (suc (suc (suc (suc (suc (suc (suc (suc (suc (suc j)))))))))))) n h = other (suc (suc (suc (suc (suc (suc (suc (suc (suc (suc (suc (suc j)))))))))))) n h (omega arith)
  where
    other : (i n : ℕ) → 1 ≤ n → 12 ≤ i → class_by i n ≡ by_number i n
    other i n h k =
        rw (
          ne_eqb i 10 (λ e. omega arith),
          ne_eqb i 1 (λ e. omega arith),
          ne_eqb i 2 (λ e. omega arith),
          ne_eqb i 3 (λ e. omega arith),
          ne_eqb i 4 (λ e. omega arith),
          ne_eqb i 5 (λ e. omega arith),
          ne_eqb i 6 (λ e. omega arith),
          ne_eqb i 7 (λ e. omega arith),
          ne_eqb i 8 (λ e. omega arith),
          ne_eqb i 9 (λ e. omega arith),
          ne_eqb i 11 (λ e. omega arith),
          ne_eqb n 0 (λ e. omega arith),
        )

pub class_same : (fs : List (List ℕ)) (k n : ℕ) → k ≡ index (at fs 0) kind_words → n ≡ length fs → 1 ≤ n → class_by k n ≡ class_of fs
unfolding class_of is_kind
class_same fs k n e f h =
    rw (
      kind_test fs row,
      kind_test fs area,
      kind_test fs name,
      kind_test fs track,
      kind_test fs repeat,
      kind_test fs end,
      kind_test fs spare,
      kind_test fs extra,
      kind_test fs item,
      kind_test fs place,
      kind_test fs cell,
      ← e,
      ← f,
    ) (by_number_lem k n h)
