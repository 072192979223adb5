-- What the text of an edit says by its parts. Assumes nothing.
use Rattle.std.specs.Prelude.{Option, Some, None, Result, Ok, Err, ℤ, pos, negsuc}
use Rattle.std.specs.Result.{result_ok}
use Prim.Native.Nat.{ℕ, suc}
use mathlib.Core.Path.{◌≡◌, refl, sym, ap, ◌∙◌}
use mathlib.Core.List.{List}
use mathlib.Core.Bool.{Bool, true, false, cond, ◌&&◌, ◌||◌, false≢true}
use native.Mathlib.Omega.{arith}
use lib.Dec.{eqb, ltb}
use lib.ListN.{length}
use borrow.Author.Tests.{eq-eqb}
use Rattle.coordinates.specs.declared.axis.Axis.{Axis}
use Rattle.coordinates.specs.declared.axis.Axis.TheVariants.{Column, Row}
use Rattle.coordinates.specs.declared.refusal.Fault.{Fault as RefusedFor}
use Rattle.text.specs.declared.NumberFault.{NumberFault}
use Rattle.text.specs.declared.NumberFault.TheVariants.{Unread, Outside}
use Rattle.text.specs.Split.{same, index}
use Rattle.text.specs.Whole.{Written, none, whole, whole_of, count_in}
use Rattle.text.proofs.Which.{same_equal, unequal}
use Rattle.sheet_forms.specs.Words.{at}
use Rattle.sheet_forms.specs.Answers.{AxisField, axis_said}
use Rattle.sheet_forms.specs.Fields.{axis_at, axis_of}
use Rattle.sheet_rules.specs.Contents.{Line as Fields, letter_of}
use Rattle.panel_rules.specs.Runs.{Call}
use Rattle.sheet.proofs.Steps.{has_number}
use Rattle.edit_rules.specs.Edits.{entry_line, is_written}
use Rattle.panel_edits.specs.Texts.{line_read, entry_written}

-- ---- the line of an entry

abbrev is_unread : Result ℕ NumberFault → Bool
is_unread (Ok n) = false
is_unread (Err Unread) = true
is_unread (Err Outside) = false

-- a whole number is never unread
whole_read : (z : ℤ) → is_unread (count_in 1 20000 (whole z)) ≡ false
unfolding count_in
whole_read (pos n) = go (ltb n 1) (ltb 20000 n)
  where
    go : (t u : Bool) → is_unread (cond t (Err Outside) (cond u (Err Outside) (Ok n))) ≡ false
    go true u = refl
    go false true = refl
    go false false = refl
whole_read (negsuc k) = refl

-- an entry's line is there where a whole number is
line_same : (w : Written) → line_read (count_in 1 20000 w) ≡ cond (is_written w) (Some (entry_line (count_in 1 20000 w))) None
line_same none = unfold count_in in refl
line_same (whole z) = go (count_in 1 20000 (whole z)) (whole_read z)
  where
    go : (c : Result ℕ NumberFault) → is_unread c ≡ false → line_read c ≡ Some (entry_line c)
    go (Ok n) h = refl
    go (Err Outside) h = refl
    go (Err Unread) h = absurd (false≢true (sym h))

-- ---- its axis

-- `c` or `r`
abbrev axis_written : List ℕ → Option Axis
axis_written f = cond (same f (letter_of Column)) (Some Column) (cond (same f (letter_of Row)) (Some Row) None)

-- two texts are equal in either order
same_turned : (a b : List ℕ) → same a b ≡ same b a
same_turned a b = go (same a b) refl
  where
    go : (t : Bool) → same a b ≡ t → same a b ≡ same b a
    go true e = ap (λ (l : List ℕ). same l b) (same_equal a b e) ∙ ap (same b) (sym (same_equal a b e))
    go false e = other (same b a) refl
      where
        other : (u : Bool) → same b a ≡ u → same a b ≡ same b a
        other true d = absurd (unequal a b e (sym (same_equal b a d)))
        other false d = e ∙ sym d

-- the axis that a field names, by what was read
axis_by : (t u : Bool) (r : Result Axis RefusedFor) → axis_said r ≡ axis_at (cond t 0 (suc (cond u 0 1))) → result_ok r ≡ cond t (Some Column) (cond u (Some Row) None)
axis_by true u (Ok a) e = ap (λ (x : AxisField). Some x.axis) e
axis_by true u (Err f) e = absurd (has_number f (ap (λ (x : AxisField). x.fault) e))
axis_by false true (Ok a) e = ap (λ (x : AxisField). Some x.axis) e
axis_by false true (Err f) e = absurd (has_number f (ap (λ (x : AxisField). x.fault) e))
axis_by false false (Ok a) e = absurd (omega (arith, ap (λ (x : AxisField). x.fault) e))
axis_by false false (Err f) e = refl

axis_same : (r : Result Axis RefusedFor) (f : List ℕ) → axis_said r ≡ axis_of f → result_ok r ≡ axis_written f
unfolding axis_of index
axis_same r f e = rw (same_turned f (letter_of Column), same_turned f (letter_of Row)) (axis_by (same (letter_of Column) f) (same (letter_of Row) f) r e)

-- ---- an entry

-- by its axis, its line and its name
abbrev pub entry_by : Option Axis → Option ℕ → List ℕ → Option Call
entry_by None number name = None
entry_by (Some a) None name = None
entry_by (Some a) (Some n) name = Some (record { axis = a; line = n; name = name })

-- no field names both axes
one_axis : (f : List ℕ) → same f (letter_of Column) ≡ true → same f (letter_of Row) ≡ false
one_axis f e = rw (same_equal f (letter_of Column) e) (unfold same in refl)

of_four : (fs : Fields) → eqb (length fs) 4 ≡ true → entry_by (axis_written (at fs 1)) (line_read (count_in 1 20000 (whole_of (at fs 2)))) (at fs 3) ≡ entry_written fs
of_four fs four = rw (four, line_same (whole_of (at fs 2))) (go (same (at fs 1) (letter_of Column)) refl (same (at fs 1) (letter_of Row)) refl (is_written (whole_of (at fs 2))))
  where
    n : ℕ
    n = entry_line (count_in 1 20000 (whole_of (at fs 2)))

    go : (s : Bool) → same (at fs 1) (letter_of Column) ≡ s → (t : Bool) → same (at fs 1) (letter_of Row) ≡ t → (u : Bool)
        → entry_by (cond s (Some Column) (cond t (Some Row) None)) (cond u (Some n) None) (at fs 3)
        ≡ cond ((s || t) && u) (Some (record { axis = cond t Row Column; line = n; name = at fs 3 })) None
    go true e true d u = absurd (false≢true (sym (one_axis (at fs 1) e) ∙ d))
    go true e false d true = refl
    go true e false d false = refl
    go false e true d true = refl
    go false e true d false = refl
    go false e false d u = refl

-- the entry of a text of four fields
pub entry_same : (fs : Fields) (r : Result Axis RefusedFor) (a : Option Axis) (number : Option ℕ) → length fs ≡ 4 → axis_said r ≡ axis_of (at fs 1) → a ≡ result_ok r
    → number ≡ line_read (count_in 1 20000 (whole_of (at fs 2))) → entry_by a number (at fs 3) ≡ entry_written fs
entry_same fs r a number four e o l = rw (o, axis_same r (at fs 1) e, l) (of_four fs (eq-eqb (length fs) 4 four))
