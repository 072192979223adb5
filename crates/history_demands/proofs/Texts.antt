-- The texts that were written are found again, and accepted edits are texts of one line. Assumes nothing.
use Prim.Native.Nat.{ℕ, zero, suc, ◌+◌, ◌≤◌}
use mathlib.Core.Path.{◌≡◌, refl, sym, ap, ◌∙◌}
use mathlib.Core.List.{List, [], ◌∷◌, ◌++◌, map, append_assoc, append-nil}
use mathlib.Core.Bool.{Bool, true, false, cond}
use native.Mathlib.Omega.{arith}
use lib.Dec.{eqb}
use lib.ListN.{length, take, drop, take-append-drop}
use lib.Seq.{length-take-le}
use borrow.Author.Tests.{eqb-false}
use Rattle.std.specs.Prelude.{Some}
use Rattle.text.specs.Split.{split, before}
use Rattle.text.proofs.Cut.{Free, AllFree}
use Rattle.history_lines.specs.Lines.{history_line, history_of}
use Rattle.history_lines.proofs.Exactly.{one_line_free}
use Rattle.history_lines.proofs.Histories.{history_append}
use Rattle.panel_tables.specs.View.{PanelView}
use Rattle.edit_rules.specs.Edits.{Edit, line, enter, unread, edit_in, edit_of}
use Rattle.edit_rules.specs.Replay.{edit_step, edited_by}
use Rattle.panel_history.specs.History.{first_texts}
use Rattle.panel_history.proofs.Texts.{texts-here}

-- one line
pub one-line : (n : ℕ) (text : List ℕ) → history_of n (text ∷ []) ≡ history_line n text
unfolding history_of
one-line n text = append-nil (history_line n text)

free_first : (b k : ℕ) (l : List (List ℕ)) → AllFree b l → AllFree b (take k l)
free_first b zero l f = tt
free_first b (suc k) [] f = tt
free_first b (suc k) (x ∷ l) f = (f.0, free_first b k l f.1)

-- the first ones of a history
pub first-found : (texts : List (List ℕ)) (s r : List ℕ) (k : ℕ) → AllFree 10 texts → s ≡ history_of 1 texts ++ r → k ≤ length texts
    → first_texts k s ≡ Some (take k texts)
first-found texts s r k f e h =
    let n : length (take k texts) ≡ k = length-take-le k texts h in
    let whole : s ≡ history_of 1 (take k texts) ++ (history_of (1 + length (take k texts)) (drop k texts) ++ r) =
    e
    ∙ ap (λ (l : List (List ℕ)). history_of 1 l ++ r) (sym (take-append-drop k texts))
    ∙ rw (history_append 1 (take k texts) (drop k texts)) (append_assoc (history_of 1 (take k texts)) (history_of (1 + length (take k texts)) (drop k texts)) r) in
    ap (λ (j : ℕ). first_texts j s) (sym n)
    ∙ texts-here (take k texts) 1 s 0 (history_of (1 + length (take k texts)) (drop k texts) ++ r) (free_first 10 k texts f) whole

-- no accepted edit has a line feed in its text
pub read-free : (v : PanelView) (texts : List (List ℕ)) → (edited_by v (map edit_of texts)).fault ≡ 0 → AllFree 10 texts
unfolding edited_by edit_of
read-free v [] z = tt
read-free v (text ∷ texts) z = go (eqb (before 10 text) (length text)) refl (λ w. read-free w texts) z
  where
    by : (w : PanelView) (fs : List (List ℕ)) (b : Bool) → eqb (edit_step w fs).fault 0 ≡ b
        → ((u : PanelView) → (edited_by u (map edit_of texts)).fault ≡ 0 → AllFree 10 texts)
        → (cond b (edited_by (edit_step w fs).panel (map edit_of texts)) (edit_step w fs)).fault ≡ 0 → AllFree 10 texts
    by w fs true e i y = i (edit_step w fs).panel y
    by w fs false e i y = absurd (eqb-false (edit_step w fs).fault 0 e y)

    rest : (e : Edit) → ((u : PanelView) → (edited_by u (map edit_of texts)).fault ≡ 0 → AllFree 10 texts)
        → (edited_by v (e ∷ map edit_of texts)).fault ≡ 0 → AllFree 10 texts
    rest (line fs) i y = by v fs (eqb (edit_step v fs).fault 0) refl i y
    rest (enter c) i y = i v y
    rest unread i y = absurd (omega (arith, y))

    go : (b : Bool) → eqb (before 10 text) (length text) ≡ b → ((u : PanelView) → (edited_by u (map edit_of texts)).fault ≡ 0 → AllFree 10 texts)
        → (edited_by v (cond b (edit_in (split 9 text)) unread ∷ map edit_of texts)).fault ≡ 0 → Free 10 text × AllFree 10 texts
    go true e i y = (one_line_free text e, rest (edit_in (split 9 text)) i y)
    go false e i y = absurd (omega (arith, y))
