-- A refused act leaves everything lent as it was. Assumes nothing.
use Prim.Native.Nat.{ℕ, suc, ◌+◌}
use mathlib.Core.Path.{◌≡◌, refl, ap, ap₂}
use mathlib.Core.List.{List, [], ◌∷◌, ◌++◌, map}
use mathlib.Core.Bool.{Bool, true, false, cond}
use lib.Dec.{eqb, leb, ltb}
use lib.ListN.{length}
use borrow.Author.Tests.{ne_eqb, le-leb}
use Rattle.std.specs.Prelude.{Option, Some, None}
use Rattle.coordinates.specs.Refusals.{Refusal, refusal_of, short, history_full, no_step}
use Rattle.name_entries.specs.Names.{is_name}
use Rattle.history_lines.specs.Lines.{history_line, history_of}
use Rattle.history_lines.specs.Written.{bytes_after}
use Rattle.panel_tables.specs.View.{PanelView}
use Rattle.sheet_rules.specs.declared.Overlap.{Overlap}
use Rattle.sheet_rules.specs.Sheet.{no_overlap, overlap_of}
use Rattle.sheet_rules.specs.Panels.{Tables}
use Rattle.sheet_rules.specs.Read.{short_stores}
use Rattle.edit_rules.specs.Edits.{Edit, edit_of}
use Rattle.edit_rules.specs.Replay.{edited_by}
use Rattle.edit_rules.specs.Settled.{edits_fault}
use Rattle.edit_rules.specs.Bases.{base_of}
use Rattle.panel_history.specs.declared.History.{History}
use Rattle.panel_history.specs.History.{Handed, Answered, first_texts, refused_with_pair, refused, sheet_refused, settled, pair_of, written, edited_after, edited_by_texts, edited, recalled_by_texts, recalled}
use Rattle.panel_history.specs.Names.{enter_text, edited_name}
use Rattle.panel_history.proofs.Enters.{edit-of-enter}
use Rattle.history_demands.specs.Acts.{InHand, Act, edit, edit_name, recall, handed, answer_to, after_answer}
use Rattle.history_demands.specs.Edited.{RefusedKeeps, NameEdit, NoName}

-- an answer that leaves everything lent as it was where it is a refusal
abbrev Keeps : Handed → Answered → Type 0
Keeps h r = (r.answer.refusal.number ≡ 0 → ⊥) → (r.tables ≡ h.tables) × (r.bytes ≡ h.bytes)

module _ (h : Handed) where
  by_refusal : (r : Refusal) (pair : Overlap) → Keeps h (refused_with_pair r pair h)
  by_refusal r pair n = (refl, refl)

  by_panel : (v : PanelView) (edits : List Edit) (history : History) (bytes : List ℕ) → Keeps h (settled v edits history bytes h)
  by_panel v edits history bytes n = absurd (n refl)

  either : (b : Bool) (x y : Answered) → Keeps h x → Keeps h y → Keeps h (cond b x y)
  either true x y k l = k
  either false x y k l = l

  module _ (v : PanelView) where
    after-keeps : (past : List Edit) (e : Edit) (place : ℕ) (added : List ℕ) → Keeps h (edited_after v past e place added h)
    unfolding edited_after
    after-keeps past e place added =
        let fault = edits_fault v (past ++ (e ∷ [])) in
        let fits = leb (place + length added) (length h.bytes) in
        either (eqb fault 0) (cond (short_stores h.tables) (refused short h) (written v past e place added h)) (refused_with_pair (refusal_of fault) (pair_of v past e) h)
        (either (short_stores h.tables) (refused short h) (written v past e place added h) (by_refusal (refusal_of short) no_overlap)
        (either fits (settled v (past ++ (e ∷ [])) (record { step = suc h.history.step; last = suc h.history.step }) (bytes_after h.bytes place added) h) (refused history_full h)
        (by_panel v (past ++ (e ∷ [])) (record { step = suc h.history.step; last = suc h.history.step }) (bytes_after h.bytes place added)) (by_refusal (refusal_of history_full) no_overlap)))
        (by_refusal (refusal_of fault) (pair_of v past e))

    texts-keep : (x : Option (List (List ℕ))) (text : List ℕ) → Keeps h (edited_by_texts v x text h)
    texts-keep None text = by_refusal (refusal_of no_step) no_overlap
    texts-keep (Some texts) text =
        let past = map edit_of texts in
        let place = length (history_of 1 texts) in
        let added = history_line (suc h.history.step) text in
        either (eqb (edited_by v past).fault 0) (edited_after v past (edit_of text) place added h) (refused no_step h)
        (after-keeps past (edit_of text) place added) (by_refusal (refusal_of no_step) no_overlap)

    recalls-keep : (x : Option (List (List ℕ))) (k : ℕ) → Keeps h (recalled_by_texts v x k h)
    recalls-keep None k = by_refusal (refusal_of no_step) no_overlap
    recalls-keep (Some texts) k =
        let past = map edit_of texts in
        either (eqb (edits_fault v past) 0) (settled v past (record { step = k; last = h.history.last }) h.bytes h) (refused no_step h)
        (by_panel v past (record { step = k; last = h.history.last }) h.bytes) (by_refusal (refusal_of no_step) no_overlap)

  edit-keeps : (s text : List ℕ) → Keeps h (edited s text h)
  unfolding edited
  edit-keeps s text =
      let o = base_of s in
      let x = first_texts h.history.step h.bytes in
      either (eqb o.fault 0) (edited_by_texts o.view x text h) (sheet_refused o (overlap_of s) h)
      (texts-keep o.view x text) (by_refusal (record { number = o.fault; line = o.line }) (overlap_of s))

  recall-keeps : (s : List ℕ) (k : ℕ) → Keeps h (recalled s k h)
  unfolding recalled
  recall-keeps s k =
      let o = base_of s in
      let there = recalled_by_texts o.view (first_texts k h.bytes) k h in
      let within = cond (ltb h.history.last k) (refused no_step h) there in
      either (eqb o.fault 0) (cond (short_stores h.tables) (refused short h) within) (sheet_refused o (overlap_of s) h)
      (either (short_stores h.tables) (refused short h) within (by_refusal (refusal_of short) no_overlap)
      (either (ltb h.history.last k) (refused no_step h) there (by_refusal (refusal_of no_step) no_overlap) (recalls-keep o.view (first_texts k h.bytes) k)))
      (by_refusal (record { number = o.fault; line = o.line }) (overlap_of s))

act-keeps : (s : List ℕ) (h : InHand) (a : Act) → Keeps (handed h) (answer_to s h a)
unfolding edited_name
act-keeps s h (edit text) = edit-keeps (handed h) s text
act-keeps s h (edit_name c) =
    let text = enter_text c.axis c.line c.name in
    either (handed h) (is_name c.name) (edited s text (handed h)) (refused 2 (handed h)) (edit-keeps (handed h) s text) (by_refusal (handed h) (refusal_of 2) no_overlap)
act-keeps s h (recall k) = recall-keeps (handed h) s k

-- so all is held as before
pub refused_keeps : RefusedKeeps
refused_keeps s h a n = go (answer_to s h a) (act-keeps s h a) n
  where
    go : (r : Answered) → Keeps (handed h) r → (r.answer.refusal.number ≡ 0 → ⊥) → after_answer h r ≡ h
    go r k m =
        rw (ne_eqb r.answer.refusal.number 0 m)
        (ap₂ (λ (t : Tables) (b : List ℕ). record { panel = h.panel; history = h.history; tables = t; bytes = b }) (k m).0 (k m).1)

pub no_name : NoName
unfolding edited_name
no_name s h c e = ap (λ (r : Answered). r.answer.refusal.number) named
  where
    named : answer_to s h (edit_name c) ≡ refused 2 (handed h)
    named = rw e

pub name_edit : NameEdit
name_edit c e from to = rw (le-leb 1 c.line from, le-leb c.line 20000 to) at (edit-of-enter c.axis c.line c.name e)
