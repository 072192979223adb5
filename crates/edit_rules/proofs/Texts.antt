-- The texts of edits: which are none, and that every line among edits is an edit's. Assumes nothing.
use Prim.Native.Nat.{ℕ}
use mathlib.Core.Path.{◌≡◌, refl}
use mathlib.Core.List.{List, [], ◌∷◌, map}
use mathlib.Core.Bool.{Bool, true, false, cond, not}
use native.Mathlib.Omega.{arith}
use lib.Dec.{eqb}
use lib.ListN.{length}
use borrow.Author.Tests.{eqb-true}
use Rattle.std.specs.Prelude.{Err}
use Rattle.text.specs.declared.NumberFault.{NumberFault}
use Rattle.text.specs.Split.{split, before, same}
use Rattle.text.specs.Whole.{whole_of, count_in}
use Rattle.sheet_forms.specs.Words.{at}
use Rattle.name_entries.specs.Names.{is_name}
use Rattle.sheet_rules.specs.Contents.{Line}
use Rattle.panel_rules.specs.Book.{table_refusal}
use Rattle.edit_rules.specs.Edits.{Edit, line, enter, unread, enter_word, is_enter, call_in, is_edit, edit_in, edit_of}
use Rattle.edit_rules.specs.Theorem.{AllEdits}

-- no line ends in a text that is an edit
pub edit_unbroken : (text : List ℕ) → (edit_of text ≡ unread → ⊥) → before 10 text ≡ length text
unfolding edit_of
edit_unbroken text = go (eqb (before 10 text) (length text)) refl
  where
    go : (t : Bool) → eqb (before 10 text) (length text) ≡ t → (cond t (edit_in (split 9 text)) unread ≡ unread → ⊥) → before 10 text ≡ length text
    go true e h = eqb-true (before 10 text) (length text) e
    go false e h = absurd (h refl)

-- an entry whose line is not one of 1 to 20,000 is refused
pub outside_refused : (fs : Line) (fault : NumberFault) → count_in 1 20000 (whole_of (at fs 2)) ≡ Err fault → (entries used : ℕ)
    → table_refusal entries used (call_in fs).line (call_in fs).name ≡ 0 → ⊥
unfolding table_refusal
outside_refused fs fault e entries used z = go (is_name (call_in fs).name) (rw e at z)
  where
    go : (t : Bool) → ◌≡◌ {A = ℕ} (cond (not t) 2 4) 0 → ⊥
    go true y = omega (arith, y)
    go false y = omega (arith, y)

-- every line among edits is an edit's
in_all : (fs : Line) (edits : List Edit) → AllEdits edits → AllEdits (edit_in fs ∷ edits)
unfolding edit_in
in_all fs edits h = go (same (at fs 0) enter_word) (is_enter fs) (is_edit fs) refl
  where
    go : (t u w : Bool) → is_edit fs ≡ w → AllEdits (cond t (cond u (enter (call_in fs)) unread) (cond w (line fs) unread) ∷ edits)
    go true true w e = h
    go true false w e = h
    go false u true e = (e, h)
    go false u false e = h

of_all : (text : List ℕ) (edits : List Edit) → AllEdits edits → AllEdits (edit_of text ∷ edits)
unfolding edit_of
of_all text edits h = go (eqb (before 10 text) (length text))
  where
    go : (t : Bool) → AllEdits (cond t (edit_in (split 9 text)) unread ∷ edits)
    go true = in_all (split 9 text) edits h
    go false = h

pub texts_all : (texts : List (List ℕ)) → AllEdits (map edit_of texts)
texts_all [] = tt
texts_all (text ∷ texts) = of_all text (map edit_of texts) (texts_all texts)
