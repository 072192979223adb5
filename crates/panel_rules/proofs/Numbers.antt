-- The numbers of a `place` or `cell` line are in the ranges of their kinds, and reading them back holds none of them. Assumes nothing.
use Prim.Native.Nat.{ℕ, zero, suc, ◌≤◌, min, zero-le}
use mathlib.Core.Path.{◌≡◌, refl, sym, ap, ◌∙◌, subst}
use mathlib.Core.List.{List}
use mathlib.Core.Bool.{Bool, true, false, cond}
use native.Mathlib.Omega.{arith}
use native.Mathlib.Nat.{min-eq_left}
use lib.Dec.{eqb, ltb}
use lib.IntN.{ℤ, pos, negsuc}
use lib.ListN.{length}
use borrow.Author.Tests.{ltb-false}
use Rattle.text.specs.Split.{index, same}
use Rattle.text.specs.Whole.{Written, none, whole, whole_of, index_in}
use Rattle.std.specs.Prelude.{Ok, Err}
use Rattle.text.specs.declared.NumberFault.TheVariants.{Outside}
use Rattle.sheet_forms.specs.Said.{Record}
use Rattle.sheet_forms.specs.Said.{Fault, Axis as AxisLine, Area as AreaLine, Name, Track, Repeat, End as EndLine, Spare, Extra, Item, Place, PictureRow, Cell}
use Rattle.sheet_forms.specs.Words.{at, nought, end_words}
use Rattle.sheet_forms.specs.Fields.{word_of, axis_of}
use Rattle.sheet_forms.specs.Ends.{end_kind, index_field, faulty_number, end_number, end_within, end_of, cell_end_of}
use Rattle.sheet_forms.specs.Answers.{AxisField}
use Rattle.sheet_forms.specs.Answers.{EndField}
use Rattle.sheet_forms.specs.Faults.{first_of}
use Rattle.sheet_forms.specs.Records.{made_place, place_line, made_cell, cell_line, record_of}
use Rattle.sheet_forms.specs.Forms.{place, cell}
use Rattle.sheet_forms.proofs.Codes.{count_most}
use Rattle.sheet_forms.proofs.FieldBounds.{word-most}
use Rattle.sheet_forms.proofs.LineFaults.{line_record}
use Rattle.sheet_rules.proofs.Says.{Says, record_says}
use Rattle.panel_rules.specs.Ranges.{IsIndex, IsSpan, NumberOf}
use Rattle.panel_rules.specs.Placing.{held_index, held_span}
use Rattle.panel_rules.specs.Views.{span_of}

-- ---- one end

index_in_lem : (w : Written) → IsIndex (index_field (index_in w)).value
unfolding index_in
index_in_lem none = zero-le
index_in_lem (whole (pos n)) = go (ltb 32767 n) refl
  where
    go : (t : Bool) → ltb 32767 n ≡ t → IsIndex (index_field (cond t (Err Outside) (Ok (pos n)))).value
    go true e = zero-le
    go false e = ltb-false 32767 n e
index_in_lem (whole (negsuc k)) = go (ltb 32767 k) refl
  where
    go : (t : Bool) → ltb 32767 k ≡ t → IsIndex (index_field (cond t (Err Outside) (Ok (negsuc k)))).value
    go true e = zero-le
    go false e = ltb-false 32767 k e

number_in : (least most : ℕ) → most ≤ 65535 → (k : ℕ) (f : List ℕ) → k ≤ 4 → NumberOf k (end_number least most k f).value
unfolding end_number
number_in least most few zero f h = go (same f nought)
  where
    go : (t : Bool) → (cond t (faulty_number 0) (faulty_number 1)).value ≡ pos 0
    go true = refl
    go false = refl
number_in least most few (suc zero) f h = index_in_lem (whole_of f)
number_in least most few (suc (suc zero)) f h = index_in_lem (whole_of f)
number_in least most few (suc (suc (suc zero))) f h = omega (arith, few, count_most least most f)
number_in least most few (suc (suc (suc (suc zero)))) f h = count_most 0 65535 f
number_in least most few (suc (suc (suc (suc (suc k))))) f h = absurd (omega arith)

end_in_lem : (least most : ℕ) → most ≤ 65535 → (f n m : List ℕ) → NumberOf (end_within least most f n m).end.kind (end_within least most f n m).end.number
unfolding end_within end_kind
end_in_lem least most few f n m = number_in least most few (word_of 5 (index f end_words)).value m (word-most 4 (index f end_words))

place_end_in : (f n m : List ℕ) → NumberOf (end_of f n m).end.kind (end_of f n m).end.number
place_end_in = end_in_lem 0 65535 (omega arith)

cell_end_in : (f n m : List ℕ) → NumberOf (cell_end_of f n m).end.kind (cell_end_of f n m).end.number
cell_end_in = end_in_lem 1 32 (omega arith)

-- ---- a line

-- the numbers of a `place` or `cell` record
abbrev pub Placed : Record → Type 0
Placed (Fault n) = Unit {0}
Placed (AxisLine a) = Unit {0}
Placed (AreaLine a) = Unit {0}
Placed (Name a) = Unit {0}
Placed (Track a min max) = Unit {0}
Placed (Repeat a n) = Unit {0}
Placed (EndLine a) = Unit {0}
Placed (Spare a min max) = Unit {0}
Placed (Extra a n p) = Unit {0}
Placed (Item a i) = Unit {0}
Placed (PictureRow n) = Unit {0}
Placed (Place a s e) = NumberOf s.kind s.number × NumberOf e.kind e.number
Placed (Cell cs ce rs re) = (NumberOf cs.kind cs.number × NumberOf ce.kind ce.number) × (NumberOf rs.kind rs.number × NumberOf re.kind re.number)

place-placed : (fs : List (List ℕ)) → Placed (place_line fs)
unfolding place_line
place-placed fs = fields (eqb (length fs) 8)
  where
    a : AxisField
    a = axis_of (at fs 1)

    s : EndField
    s = end_of (at fs 2) (at fs 3) (at fs 4)

    e : EndField
    e = end_of (at fs 5) (at fs 6) (at fs 7)

    n : ℕ
    n = first_of a.fault (first_of s.fault e.fault)

    made : (t : Bool) → Placed (cond t (Place a.axis s.end e.end) (Fault n))
    made true = (place_end_in (at fs 2) (at fs 3) (at fs 4), place_end_in (at fs 5) (at fs 6) (at fs 7))
    made false = tt

    fields : (t : Bool) → Placed (cond t (made_place a s e) (Fault 1))
    fields true = made (eqb n 0)
    fields false = tt

cell-placed : (fs : List (List ℕ)) → Placed (cell_line fs)
unfolding cell_line
cell-placed fs = fields (eqb (length fs) 13)
  where
    cs : EndField
    cs = cell_end_of (at fs 1) (at fs 2) (at fs 3)

    ce : EndField
    ce = cell_end_of (at fs 4) (at fs 5) (at fs 6)

    rs : EndField
    rs = cell_end_of (at fs 7) (at fs 8) (at fs 9)

    re : EndField
    re = cell_end_of (at fs 10) (at fs 11) (at fs 12)

    n : ℕ
    n = first_of cs.fault (first_of ce.fault (first_of rs.fault re.fault))

    made : (t : Bool) → Placed (cond t (Cell cs.end ce.end rs.end re.end) (Fault n))
    made true =
        ((cell_end_in (at fs 1) (at fs 2) (at fs 3), cell_end_in (at fs 4) (at fs 5) (at fs 6)), (cell_end_in (at fs 7) (at fs 8) (at fs 9), cell_end_in (at fs 10) (at fs 11) (at fs 12)))
    made false = tt

    fields : (t : Bool) → Placed (cond t (made_cell cs ce rs re) (Fault 1))
    fields true = made (eqb n 0)
    fields false = tt

-- every line
pub record_placed : (fs : List (List ℕ)) → Placed (record_of fs)
record_placed fs = go (record_of fs) refl (record_says fs)
  where
    go : (r : Record) → record_of fs ≡ r → Says fs r → Placed r
    go (Fault n) e h = tt
    go (AxisLine a) e h = tt
    go (AreaLine a) e h = tt
    go (Name a) e h = tt
    go (Track a min max) e h = tt
    go (Repeat a n) e h = tt
    go (EndLine a) e h = tt
    go (Spare a min max) e h = tt
    go (Extra a n p) e h = tt
    go (Item a i) e h = tt
    go (PictureRow n) e h = tt
    go (Place a s t) e h = subst Placed (sym (line_record place fs h.0.word) ∙ e) (place-placed fs)
    go (Cell cs ce rs re) e h = subst Placed (sym (line_record cell fs h.word) ∙ e) (cell-placed fs)

-- ---- numbers in range are read back as they are

pub index-held : (z : ℤ) → IsIndex z → held_index z ≡ z
index-held (pos n) h = ap pos (min-eq_left h)
index-held (negsuc k) h = ap negsuc (min-eq_left h)

pub span-held : (z : ℤ) → IsSpan z → held_span z ≡ span_of z
span-held (pos n) h = min-eq_left h
span-held (negsuc k) h = absurd h
