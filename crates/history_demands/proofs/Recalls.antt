-- A recall to a step that there is, and above the last. Assumes nothing.
use Prim.Native.Nat.{ℕ, ◌≤◌, ◌<◌}
use mathlib.Core.Path.{◌≡◌, refl, sym, ap, ◌∙◌, subst}
use mathlib.Core.List.{List, ◌++◌, map}
use mathlib.Core.Bool.{Bool, true, false}
use mathlib.Core.Logic.{◌↔◌}
use native.Mathlib.Omega.{arith}
use lib.Dec.{leb}
use lib.ListN.{length, take, drop, take-append-drop, length-append}
use lib.Seq.{take-append_seam}
use borrow.Author.Tests.{leb-true, leb-false}
use Rattle.coordinates.specs.declared.axis.Axis.TheVariants.{Column, Row}
use Rattle.name_rules.specs.Css.{Entry}
use Rattle.axis_tables.specs.View.{AxisView}
use Rattle.panel_tables.specs.View.{PanelView}
use Rattle.panel_tables.proofs.Fits.{FitsPanel}
use Rattle.sheet_rules.specs.Sheet.{sheet_of}
use Rattle.sheet_rules.specs.Panels.{Tables, sized_state, tables_of}
use Rattle.sheet_rules.specs.Read.{short_stores}
use Rattle.sheet_rules.proofs.Fits.{sheet_fits}
use Rattle.panel_rules.specs.Runs.{Held, Accepted}
use Rattle.panel_rules.specs.Views.{bytes_after, store_after, state_after, held_after}
use Rattle.panel_rules.proofs.Sheets.{accepted_sheet}
use Rattle.edit_rules.specs.Edits.{Edit, edit_of}
use Rattle.edit_rules.specs.Settled.{calls_of, entered_on, view_by, edits_fault, edits_held}
use Rattle.edit_rules.proofs.Held.{edit_held}
use Rattle.panel_history.specs.declared.History.{History}
use Rattle.panel_history.specs.History.{Answered}
use Rattle.history_demands.specs.Acts.{InHand, recall, refusal_to, after_answer, after_act, all_steps, Reached, reached_by, panel_held, past_edits}
use Rattle.history_demands.specs.Run.{GivenBy, RunTheorem}
use Rattle.history_demands.specs.Recalls.{SameTables, BroughtBack, RecallTheorem, RecallStep, Seventeen}
use Rattle.history_demands.proofs.Fit.{long-too}
use Rattle.history_demands.proofs.Here.{past_accepted, tables-long, recall-above, recall-taken}
use Rattle.history_demands.proofs.Runs.{recalled-run, run_held}

-- ---- the same edits in other tables

used-same : (v : AxisView) (es : List Entry) (store other : List ℕ)
    → take (length (bytes_after v es)) (store_after v es store) ≡ take (length (bytes_after v es)) (store_after v es other)
unfolding store_after
used-same v es store other = take-append_seam (bytes_after v es) _ ∙ sym (take-append_seam (bytes_after v es) _)

-- the panel is the same, and the tables but for the bytes past the used ones
pub record SameHeld (h g : Held) : Type 0 where
  pub panel : g.panel ≡ h.panel
  pub tables : SameTables h.panel g.tables h.tables

closed-same : (v : PanelView) (t u : Tables) (c r : List Entry) → SameHeld (held_after v t c r) (held_after v u c r)
unfolding held_after state_after sized_state tables_of
closed-same v t u c r =
    record {
      panel = refl;
      tables = record {
        columns = refl;
        rows = refl;
        column_marks = refl;
        row_marks = refl;
        areas = refl;
        area_bytes = refl;
        placements = refl;
        placement_bytes = refl;
        column_store = used-same v.columns c u.column_store t.column_store;
        row_store = used-same v.rows r u.row_store t.row_store;
      };
    }

edits-same : (v : PanelView) (t u : Tables) (edits : List Edit) → FitsPanel v → short_stores t ≡ false → short_stores u ≡ false → edits_fault v edits ≡ 0
    → SameHeld (edits_held v t edits) (edits_held v u edits)
edits-same v t u edits f p q z =
    rw (edit_held v t edits f p z, edit_held v u edits f q z)
    (closed-same (view_by v edits) t u (entered_on Column (calls_of edits)) (entered_on Row (calls_of edits)))

-- ---- a recall

module _ (s : List ℕ) (t : Tables) (ok : Accepted s t) (bytes : List ℕ) (r : Reached) (k : RunTheorem s t bytes r) (j : ℕ) where
  abbrev v : PanelView
  v = (sheet_of s).view

  -- what is held after it
  abbrev there : List (List ℕ) → History → InHand → InHand
  there texts history g =
      let x : Held = edits_held v g.tables (map edit_of texts) in
      record { panel = x.panel; history = history; tables = x.tables; bytes = g.bytes }

  module _ (l : j ≤ r.held.history.last) where
    abbrev after : InHand
    after = there (take j (all_steps r.steps)) (record { step = j; last = r.held.history.last }) r.held

    recalled-held : after_act s r.held (recall j) ≡ after
    recalled-held = ap (after_answer r.held) (recall-taken s t ok bytes r k j l)

    -- the step before it
    first_steps : take r.held.history.step (take j (all_steps r.steps) ++ drop j (all_steps r.steps)) ≡ r.steps.past
    first_steps = rw (take-append-drop j (all_steps r.steps), k.step) (take-append_seam r.steps.past r.steps.future)

    back-held : after_act s after (recall r.held.history.step) ≡ there r.steps.past r.held.history after
    back-held =
        let n = recalled-run s t ok bytes r k j l in
        ap (after_answer after) (recall-taken s t ok bytes _ n r.held.history.step (omega (arith, k.step, k.last, step-within)))
        ∙ ap (λ (x : List (List ℕ)). there x r.held.history after) first_steps
      where
        step-within : length r.steps.past ≤ length (all_steps r.steps)
        step-within = omega (arith, length-append r.steps.past r.steps.future)

    back-same : SameHeld (panel_held r.held) (edits_held v after.tables (past_edits r.steps))
    back-same =
        let n = recalled-run s t ok bytes r k j l in
        let short = (accepted_sheet s t ok).1 in
        rw k.panel.held
        (edits-same v k.panel.lent after.tables (past_edits r.steps) (sheet_fits s) (long-too k.panel.lent t k.panel.stores short)
        (long-too after.tables t (tables-long s t ok bytes _ n) short) (past_accepted s t ok bytes r k))

    pub recall-theorem : RecallTheorem s t r j
    recall-theorem =
        record {
          accepted = ap (λ (x : Answered). x.answer.refusal.number) (recall-taken s t ok bytes r k j l);
          panel = subst (λ (g : InHand). GivenBy s t (map edit_of (take j (all_steps r.steps))) (panel_held g)) (sym recalled-held)
              (record { lent = r.held.tables; stores = tables-long s t ok bytes r k; held = refl });
          history = ap (λ (g : InHand). g.history) recalled-held;
          bytes = ap (λ (g : InHand). g.bytes) recalled-held;
          back = subst (BroughtBack r.held) (sym (ap (λ (g : InHand). after_act s g (recall r.held.history.step)) recalled-held ∙ back-held))
              (record { panel = back-same.panel; history = refl; tables = back-same.tables; bytes = refl });
        }

  -- 17 exactly above the last
  pub above : (refusal_to s r.held (recall j) ≡ 17) ↔ (r.held.history.last < j)
  above = (to, λ l. ap (λ (x : Answered). x.answer.refusal.number) (recall-above s t ok bytes r k j l))
    where
      to : refusal_to s r.held (recall j) ≡ 17 → r.held.history.last < j
      to e = go (leb j r.held.history.last) refl
        where
          go : (b : Bool) → leb j r.held.history.last ≡ b → r.held.history.last < j
          go false q = leb-false j r.held.history.last q
          go true q =
              let none = ap (λ (x : Answered). x.answer.refusal.number) (recall-taken s t ok bytes r k j (leb-true j r.held.history.last q)) in
              let z = sym none ∙ e in
              absurd (omega (arith, z))

pub recall_step : RecallStep
recall_step r ok j l = recall-theorem r.sheet r.tables ok r.bytes (reached_by r) (run_held r ok) j l

pub seventeen : Seventeen
seventeen r ok j = above r.sheet r.tables ok r.bytes (reached_by r) (run_held r ok) j
