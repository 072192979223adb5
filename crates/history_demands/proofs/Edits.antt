-- When an edit is accepted, when it is refused by 16, and what an accepted one leaves. Assumes nothing.
use Prim.Native.Nat.{ℕ, suc}
use mathlib.Core.Path.{◌≡◌, refl, sym, ap, ◌∙◌}
use mathlib.Core.List.{List, map}
use mathlib.Core.Bool.{Bool, true, false}
use native.Mathlib.Omega.{arith}
use lib.Dec.{eqb, leb}
use lib.ListN.{length}
use borrow.Author.Tests.{eqb-true, eqb-false, leb-true, leb-false}
use Rattle.history_lines.specs.Lines.{history_of}
use Rattle.sheet_rules.specs.Sheet.{sheet_of}
use Rattle.sheet_rules.specs.Panels.{Tables}
use Rattle.panel_rules.specs.Runs.{Accepted}
use Rattle.edit_rules.specs.Edits.{edit_of}
use Rattle.panel_history.specs.History.{Answered, edited}
use Rattle.panel_history.specs.Names.{enter_text, edited_name}
use Rattle.history_demands.specs.Acts.{Act, edit, edit_name, handed, answer_to, refusal_to, after_act, Reached, reached_by}
use Rattle.history_demands.specs.Run.{RunTheorem}
use Rattle.history_demands.specs.Edited.{by_text, by_name, texts_with, fault_with, Fits, Unfit, Taken, EditTheorem, EditStep}
use Rattle.history_demands.proofs.Numbers.{few_faults}
use Rattle.history_demands.proofs.Here.{tables-long, edit-refused, edit-full, edit-taken}
use Rattle.history_demands.proofs.Runs.{edited-bytes, run_held}

module _ (s : List ℕ) (t : Tables) (ok : Accepted s t) (bytes : List ℕ) (r : Reached) (k : RunTheorem s t bytes r) (a : Act) (text : List ℕ)
    (same : answer_to s r.held a ≡ edited s text (handed r.held)) where
  abbrev fault : ℕ
  fault = fault_with s r.steps text

  abbrev lines : ℕ
  lines = length (history_of 1 (texts_with r.steps text))

  abbrev number : Answered → ℕ
  number x = x.answer.refusal.number

  refused : (fault ≡ 0 → ⊥) → refusal_to s r.held a ≡ fault
  refused n = ap number (same ∙ edit-refused s t ok bytes r k text n)

  full : fault ≡ 0 → Unfit r.steps text r.held.bytes → refusal_to s r.held a ≡ 16
  full z u = ap number (same ∙ edit-full s t ok bytes r k text z u)

  accepted : fault ≡ 0 → Fits r.steps text r.held.bytes → refusal_to s r.held a ≡ 0
  accepted z f = ap number (same ∙ edit-taken s t ok bytes r k text z f)

  -- which of the three
  data Which : Type 0 where
    by_fault : (fault ≡ 0 → ⊥) → Which
    by_room : fault ≡ 0 → Unfit r.steps text r.held.bytes → Which
    none : fault ≡ 0 → Fits r.steps text r.held.bytes → Which

  which : Which
  which = go (eqb fault 0) refl (leb lines (length r.held.bytes)) refl
    where
      go : (b : Bool) → eqb fault 0 ≡ b → (c : Bool) → leb lines (length r.held.bytes) ≡ c → Which
      go false e c f = by_fault (eqb-false fault 0 e)
      go true e false f = by_room (eqb-true fault 0 e) (leb-false lines (length r.held.bytes) f)
      go true e true f = none (eqb-true fault 0 e) (leb-true lines (length r.held.bytes) f)

  when_accepted : refusal_to s r.held a ≡ 0 → (fault ≡ 0) × Fits r.steps text r.held.bytes
  when_accepted z = go which
    where
      go : Which → (fault ≡ 0) × Fits r.steps text r.held.bytes
      go (by_fault n) = absurd (n (sym (refused n) ∙ z))
      go (by_room e u) = let y = sym (full e u) ∙ z in absurd (omega (arith, y))
      go (none e f) = (e, f)

  when_sixteen : refusal_to s r.held a ≡ 16 → (fault ≡ 0) × Unfit r.steps text r.held.bytes
  when_sixteen z = go which
    where
      go : Which → (fault ≡ 0) × Unfit r.steps text r.held.bytes
      go (by_fault n) = let y = sym (refused n) ∙ z in absurd (omega (arith, y, few_faults (sheet_of s).view (map edit_of (texts_with r.steps text))))
      go (by_room e u) = (e, u)
      go (none e f) = let y = sym (accepted e f) ∙ z in absurd (omega (arith, y))

  taken : fault ≡ 0 → Fits r.steps text r.held.bytes → Taken s t r text (after_act s r.held a)
  taken z f =
      rw (same ∙ edit-taken s t ok bytes r k text z f)
      (record {
        panel = record { lent = r.held.tables; stores = tables-long s t ok bytes r k; held = refl };
        history = ap (λ (n : ℕ). record { step = suc n; last = suc n }) k.step;
        bytes = edited-bytes s t ok bytes r k text z f;
      })

  pub edit-theorem : EditTheorem s t r a text
  edit-theorem =
      record {
        accepted = (when_accepted, λ p. accepted p.0 p.1);
        sixteen = (when_sixteen, λ p. full p.0 p.1);
        refused = refused;
        taken = λ z. let p = when_accepted z in taken p.0 p.1;
      }

pub edit_step : EditStep
unfolding edited_name
edit_step r ok a text (by_text x) = edit-theorem r.sheet r.tables ok r.bytes (reached_by r) (run_held r ok) (edit x) x refl
edit_step r ok a text (by_name c e) =
    edit-theorem r.sheet r.tables ok r.bytes (reached_by r) (run_held r ok) (edit_name c) (enter_text c.axis c.line c.name) (rw e)
