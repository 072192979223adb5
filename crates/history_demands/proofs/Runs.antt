-- The run theorem: an act keeps it, and so all acts from an accepted sheet do. Assumes nothing.
use Prim.Native.Nat.{ℕ, zero, suc, ◌+◌, ◌≤◌, max}
use mathlib.Core.Path.{◌≡◌, refl, sym, ap, ap₂, ◌∙◌, subst}
use mathlib.Core.List.{List, [], ◌∷◌, ◌++◌, map, append-nil}
use mathlib.Core.Bool.{Bool, true, false}
use native.Mathlib.Omega.{arith}
use lib.Dec.{eqb, leb}
use lib.ListN.{length, take, drop, length-append, length-drop, take-append-drop}
use lib.Seq.{take_all, take-append-le, length-take-le, drop-append_seam}
use borrow.Author.Tests.{eqb-true, eqb-false, eq-eqb, ne_eqb, leb-true, leb-false}
use Rattle.name_entries.specs.Names.{is_name}
use Rattle.history_lines.specs.Lines.{history_line, history_of}
use Rattle.history_lines.specs.Written.{bytes_after}
use Rattle.history_lines.proofs.Histories.{kept_first}
use Rattle.panel_tables.specs.View.{PanelView}
use Rattle.sheet_rules.specs.Sheet.{sheet_of}
use Rattle.sheet_rules.specs.Panels.{Tables}
use Rattle.panel_rules.specs.Runs.{Held, Accepted}
use Rattle.panel_rules.proofs.Sheets.{accepted_sheet}
use Rattle.panel_rules.proofs.Ends.{sheet_end}
use Rattle.edit_rules.proofs.Bases.{base_view, base_held}
use Rattle.edit_rules.specs.Edits.{edit_of}
use Rattle.edit_rules.specs.Replay.{edited_by}
use Rattle.edit_rules.specs.Settled.{calls_of, calls_fault, edits_fault, edits_held}
use Rattle.panel_history.specs.declared.History.{History}
use Rattle.panel_history.specs.History.{Answered, edited}
use Rattle.panel_history.specs.Names.{enter_text, edited_name}
use Rattle.history_demands.specs.Acts.{InHand, Act, edit, edit_name, recall, handed, answer_to, refusal_to, after_answer, begun, Steps, no_steps, all_steps, with_edit, at_step, moved, steps_after, Reached, next, acts_from, panel_held, past_edits}
use Rattle.history_demands.specs.Run.{GivenBy, RunTheorem, RunHeld}
use Rattle.history_demands.specs.Edited.{texts_with, fault_with, Fits}
use Rattle.history_demands.proofs.Lists.{drop_more, cut_there}
use Rattle.history_demands.proofs.Here.{tables-long, new-length, edit-refused, edit-full, edit-taken, recall-above, recall-taken}
use Rattle.history_demands.proofs.Kept.{refused_keeps, no_name}

module _ (s : List ℕ) (t : Tables) (ok : Accepted s t) (bytes : List ℕ) (r : Reached) (k : RunTheorem s t bytes r) where
  abbrev v : PanelView
  v = (sheet_of s).view

  -- what is reached with g held at steps p
  abbrev then : InHand → Steps → Reached
  then g p = record { held = g; steps = p; farthest = max r.farthest (length (history_of 1 (all_steps p))) }

  abbrev settled-in : List (List ℕ) → History → List ℕ → InHand
  settled-in texts history after =
      let x : Held = edits_held v r.held.tables (map edit_of texts) in
      record { panel = x.panel; history = history; tables = x.tables; bytes = after }

  -- where g is held at steps p, which are these in all
  built : (g : InHand) (p : Steps) (all : List (List ℕ)) → all_steps p ≡ all → GivenBy s t (past_edits p) (panel_held g) → g.history.step ≡ length p.past → g.history.last ≡ length all
      → g.bytes ≡ history_of 1 all ++ drop (length (history_of 1 all)) g.bytes
      → drop (max r.farthest (length (history_of 1 all))) g.bytes ≡ drop (max r.farthest (length (history_of 1 all))) bytes → length g.bytes ≡ length bytes
      → ((j : ℕ) → edits_fault v (map edit_of (take j all)) ≡ 0) → RunTheorem s t bytes (then g p)
  built g p all e panel step last lines beyond long accepted =
      record {
        panel = panel;
        step = step;
        last = last ∙ ap length (sym e);
        lines = subst (λ (x : List (List ℕ)). g.bytes ≡ history_of 1 x ++ drop (length (history_of 1 x)) g.bytes) (sym e) lines;
        beyond = subst (λ (x : List (List ℕ)). drop (max r.farthest (length (history_of 1 x))) g.bytes ≡ drop (max r.farthest (length (history_of 1 x))) bytes) (sym e) beyond;
        long = long;
        accepted = λ j. subst (λ (x : List (List ℕ)). edits_fault v (map edit_of (take j x)) ≡ 0) (sym e) (accepted j);
      }

  -- ---- a refused act

  same-run : RunTheorem s t bytes (then r.held r.steps)
  same-run =
      record {
        panel = k.panel;
        step = k.step;
        last = k.last;
        lines = k.lines;
        beyond = drop_more r.farthest (max r.farthest (length (history_of 1 (all_steps r.steps)))) r.held.bytes bytes (omega arith) k.beyond;
        long = k.long;
        accepted = k.accepted;
      }

  -- ---- an accepted edit

  module _ (text : List ℕ) (z : fault_with s r.steps text ≡ 0) (f : Fits r.steps text r.held.bytes) where
    abbrev texts : List (List ℕ)
    texts = texts_with r.steps text

    abbrev lines : List ℕ
    lines = history_of 1 texts

    abbrev after : List ℕ
    after = bytes_after r.held.bytes (length (history_of 1 r.steps.past)) (history_line (suc r.held.history.step) text)

    pub edited-bytes : after ≡ lines ++ drop (length lines) r.held.bytes
    edited-bytes =
        let n : suc r.held.history.step ≡ 1 + length r.steps.past = omega (arith, k.step) in
        let m = new-length s t ok bytes r k text in
        let e : length (history_of 1 r.steps.past) + length (history_line (1 + length r.steps.past) text) ≡ length lines =
        ap (λ (x : ℕ). length (history_of 1 r.steps.past) + length (history_line x text)) (sym n) ∙ m in
        ap (λ (x : ℕ). bytes_after r.held.bytes (length (history_of 1 r.steps.past)) (history_line x text)) n
        ∙ kept_first r.steps.past r.steps.future text (drop (length (history_of 1 (all_steps r.steps))) r.held.bytes) r.held.bytes k.lines (omega (arith, e, f))
        ∙ ap (λ (x : ℕ). lines ++ drop x r.held.bytes) e

    edited-beyond : drop (max r.farthest (length lines)) after ≡ drop (max r.farthest (length lines)) bytes
    edited-beyond =
        drop_more (length lines) (max r.farthest (length lines)) after r.held.bytes (omega arith)
        (ap (drop (length lines)) edited-bytes ∙ drop-append_seam lines (drop (length lines) r.held.bytes))
        ∙ drop_more r.farthest (max r.farthest (length lines)) r.held.bytes bytes (omega arith) k.beyond

    -- each first part of the new steps is one of the old ones, or all
    accepted-with : (j : ℕ) → edits_fault v (map edit_of (take j texts)) ≡ 0
    accepted-with j = go (leb j (length r.steps.past)) refl
      where
        go : (b : Bool) → leb j (length r.steps.past) ≡ b → edits_fault v (map edit_of (take j texts)) ≡ 0
        go true e =
            let l = leb-true j (length r.steps.past) e in
            ap (λ (x : List (List ℕ)). edits_fault v (map edit_of x)) (take-append-le j r.steps.past (text ∷ []) l ∙ sym (take-append-le j r.steps.past r.steps.future l))
            ∙ k.accepted j
        go false e =
            let l = leb-false j (length r.steps.past) e in
            ap (λ (x : List (List ℕ)). edits_fault v (map edit_of x)) (take_all j texts (omega (arith, l, length-append r.steps.past (text ∷ [])))) ∙ z

    edited-run : RunTheorem s t bytes
        (then (settled-in texts (record { step = suc r.held.history.step; last = suc r.held.history.step }) after) (with_edit r.steps text))
    edited-run =
        built (settled-in texts (record { step = suc r.held.history.step; last = suc r.held.history.step }) after) (with_edit r.steps text) texts (append-nil texts)
        (record { lent = r.held.tables; stores = tables-long s t ok bytes r k; held = refl })
        (omega (arith, k.step, length-append r.steps.past (text ∷ [])))
        (omega (arith, k.step, length-append r.steps.past (text ∷ [])))
        (cut_there lines after (drop (length lines) r.held.bytes) edited-bytes)
        edited-beyond
        (ap length edited-bytes ∙ length-append lines (drop (length lines) r.held.bytes) ∙ omega (arith, f, k.long, length-drop (length lines) r.held.bytes))
        accepted-with

  -- ---- an accepted recall

  pub recalled-run : (j : ℕ) → j ≤ r.held.history.last
      → RunTheorem s t bytes (then (settled-in (take j (all_steps r.steps)) (record { step = j; last = r.held.history.last }) r.held.bytes) (at_step r.steps j))
  recalled-run j l =
      built (settled-in (take j (all_steps r.steps)) (record { step = j; last = r.held.history.last }) r.held.bytes) (at_step r.steps j) (all_steps r.steps)
      (take-append-drop j (all_steps r.steps))
      (record { lent = r.held.tables; stores = tables-long s t ok bytes r k; held = refl })
      (sym (length-take-le j (all_steps r.steps) (omega (arith, l, k.last))))
      k.last k.lines
      (drop_more r.farthest (max r.farthest (length (history_of 1 (all_steps r.steps)))) r.held.bytes bytes (omega arith) k.beyond)
      k.long k.accepted

  -- ---- any act

  accepted-next : (a : Act) (x : Answered) → answer_to s r.held a ≡ x → x.answer.refusal.number ≡ 0 → next s r a ≡ then (after_answer r.held x) (moved r.steps a)
  accepted-next a x e z =
      let number : refusal_to s r.held a ≡ 0 = ap (λ (y : Answered). y.answer.refusal.number) e ∙ z in
      let steps : steps_after s r.held r.steps a ≡ moved r.steps a = rw (eq-eqb (refusal_to s r.held a) 0 number) in
      ap₂ then (ap (after_answer r.held) e) steps

  refused-next : (a : Act) → (refusal_to s r.held a ≡ 0 → ⊥) → RunTheorem s t bytes (next s r a)
  refused-next a n =
      let steps : steps_after s r.held r.steps a ≡ r.steps = rw (ne_eqb (refusal_to s r.held a) 0 n) in
      subst (RunTheorem s t bytes) (sym (ap₂ then (refused_keeps s r.held a n) steps)) same-run

  -- an edit by its text
  by_case : (a : Act) (text : List ℕ) → answer_to s r.held a ≡ edited s text (handed r.held) → moved r.steps a ≡ with_edit r.steps text → RunTheorem s t bytes (next s r a)
  by_case a text same move = go (eqb (fault_with s r.steps text) 0) refl (leb (length (history_of 1 (texts_with r.steps text))) (length r.held.bytes)) refl
    where
      go : (b : Bool) → eqb (fault_with s r.steps text) 0 ≡ b → (c : Bool) → leb (length (history_of 1 (texts_with r.steps text))) (length r.held.bytes) ≡ c
          → RunTheorem s t bytes (next s r a)
      go false e c f =
          let n = eqb-false (fault_with s r.steps text) 0 e in
          refused-next a (λ z. n (sym (ap (λ (x : Answered). x.answer.refusal.number) (same ∙ edit-refused s t ok bytes r k text n)) ∙ z))
      go true e false f =
          let full = edit-full s t ok bytes r k text (eqb-true (fault_with s r.steps text) 0 e) (leb-false (length (history_of 1 (texts_with r.steps text))) (length r.held.bytes) f) in
          refused-next a (λ z. let y = sym (ap (λ (x : Answered). x.answer.refusal.number) (same ∙ full)) ∙ z in omega (arith, y))
      go true e true f =
          let z = eqb-true (fault_with s r.steps text) 0 e in
          let fits = leb-true (length (history_of 1 (texts_with r.steps text))) (length r.held.bytes) f in
          rw (accepted-next a _ (same ∙ edit-taken s t ok bytes r k text z fits) refl, move) (edited-run text z fits)

  pub next-run : (a : Act) → RunTheorem s t bytes (next s r a)
  unfolding edited_name
  next-run (edit text) = by_case (edit text) text refl refl
  next-run (edit_name c) = go (is_name c.name) refl
    where
      go : (b : Bool) → is_name c.name ≡ b → RunTheorem s t bytes (next s r (edit_name c))
      go true e = by_case (edit_name c) (enter_text c.axis c.line c.name) (rw e) refl
      go false e = refused-next (edit_name c) (λ z. let y = sym (no_name s r.held c e) ∙ z in omega (arith, y))
  next-run (recall j) = go (leb j r.held.history.last) refl
    where
      go : (b : Bool) → leb j r.held.history.last ≡ b → RunTheorem s t bytes (next s r (recall j))
      go true e =
          let l = leb-true j r.held.history.last e in
          rw (accepted-next (recall j) _ (recall-taken s t ok bytes r k j l) refl) (recalled-run j l)
      go false e =
          let above = recall-above s t ok bytes r k j (leb-false j r.held.history.last e) in
          refused-next (recall j) (λ z. let y = sym (ap (λ (x : Answered). x.answer.refusal.number) above) ∙ z in omega (arith, y))

-- acts one after the other
acts-run : (s : List ℕ) (t : Tables) (ok : Accepted s t) (bytes : List ℕ) (acts : List Act) (r : Reached) → RunTheorem s t bytes r → RunTheorem s t bytes (acts_from s r acts)
unfolding acts_from
acts-run s t ok bytes [] r k = k
acts-run s t ok bytes (a ∷ acts) r k = acts-run s t ok bytes acts (next s r a) (next-run s t ok bytes r k a)

-- step 0
begun-run : (s : List ℕ) (t : Tables) (bytes : List ℕ) → Accepted s t → RunTheorem s t bytes (record { held = begun s t bytes; steps = no_steps; farthest = 0 })
unfolding history_of edits_fault edited_by calls_of calls_fault
begun-run s t bytes ok =
    record {
      panel = record { lent = t; stores = record { columns = refl; rows = refl }; held = sym (rw (← base_view s) at (base_held s t ok)) };
      step = refl;
      last = refl;
      lines = refl;
      beyond = refl;
      long = refl;
      accepted = none;
    }
  where
    nothing : edits_fault (sheet_of s).view [] ≡ 0
    nothing = rw (sheet_end s (accepted_sheet s t ok).0)

    none : (j : ℕ) → edits_fault (sheet_of s).view (map edit_of (take j [])) ≡ 0
    none zero = nothing
    none (suc j) = nothing

pub run_held : RunHeld
run_held r ok = acts-run r.sheet r.tables ok r.bytes r.acts _ (begun-run r.sheet r.tables r.bytes ok)
