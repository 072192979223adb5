-- Texts of edits on what is held for a view follow the edits on the view: the same refusal with its pair, and what is held for the view after them.
-- Assumes nothing.
use Prim.Native.Nat.{ℕ, ◌+◌, min}
use mathlib.Core.Path.{◌≡◌, refl, sym, ap, ◌∙◌}
use mathlib.Core.List.{List, [], ◌∷◌, map}
use mathlib.Core.Bool.{Bool, true, false, cond}
use native.Mathlib.Omega.{arith}
use lib.Dec.{eqb}
use lib.ListN.{length}
use borrow.Author.Tests.{eq-eqb, ne_eqb, eqb-true, eqb-false}
use Rattle.coordinates.specs.Refusals.{refusal_of}
use Rattle.panel_tables.specs.View.{PanelView, PanelOutcome, refused, accepted}
use Rattle.panel_tables.specs.Written.{PanelStepped, zero_panel, held_panel}
use Rattle.panel_tables.proofs.Fits.{FitsPanel}
use Rattle.sheet_rules.specs.declared.Overlap.{Overlap}
use Rattle.sheet_rules.specs.Answers.{SheetAnswer}
use Rattle.sheet_rules.specs.Contents.{Line}
use Rattle.sheet_rules.specs.Lines.{shared_at, line_step}
use Rattle.sheet_rules.specs.Sheet.{no_overlap, overlap_at}
use Rattle.sheet_rules.proofs.Fits.{FitsSheet}
use Rattle.sheet_rules.proofs.LineTheorem.{line-former, line-overlap}
use Rattle.sheet_faults.specs.Lines.{line_in, line_shared}
use Rattle.sheet_faults.proofs.Same.{line_fault_lem, line-held, line_shared_lem}
use Rattle.sheet.specs.Steps.{judged_by}
use Rattle.edit_rules.specs.Edits.{Edit, line, enter, unread, edit_of}
use Rattle.edit_rules.specs.Replay.{reopened, edit_fault, edit_step, edit_overlap, edited_by}
use Rattle.edit_rules.proofs.Fits.{reopened-fits, edit_fits}
use Rattle.panel_edits.specs.Steps.{stepped_by}
use Rattle.panel_edits.specs.Applied.{reopened_held, Applied, read_judgement, line_applied, edit_applied, applied, applied_step}

-- ---- the answer to one edit

-- a number at line 0, with a pair of areas
abbrev pub pair_answer : ℕ → Overlap → SheetAnswer
pair_answer fault pair = record { refusal = refusal_of fault; earlier = pair.earlier; later = pair.later; panel = zero_panel }

-- the pair of a line that is refused by 12
abbrev pub edit_pair : PanelView → Edit → Overlap
edit_pair v (line fs) = edit_overlap v fs
edit_pair v (enter c) = no_overlap
edit_pair v unread = no_overlap

abbrev pub edit_answer : PanelView → Edit → SheetAnswer
edit_answer v e = pair_answer (edited_by v (e ∷ [])).fault (edit_pair v e)

-- the kind order is in the reading alone
reopened_same : (v : PanelView) → reopened_held (held_panel v) ≡ held_panel (reopened v)
unfolding held_panel
reopened_same v = refl

areas_same : (v : PanelView) → (held_panel v).panel.grid.areas ≡ length v.areas
unfolding held_panel
areas_same v = refl

-- ---- a line

module _ (v : PanelView) (f : FitsPanel v) (fs : Line) where
  abbrev s : FitsSheet (reopened v)
  s = reopened-fits v f

  -- the first of all its faults, by an overlap and by those beside it
  line_judged : (areas shared fault : ℕ) → areas ≡ length v.areas → shared ≡ shared_at (reopened v) fs → fault ≡ (line_step (reopened v) fs).fault
      → read_judgement areas shared fault ≡ pair_answer (edit_fault v fs) (edit_overlap v fs)
  unfolding edit_overlap
  line_judged areas shared fault x y z =
      let few : min (length v.areas) 64 ≡ length v.areas = omega (arith, f.areas) in
      rw (x, y, z, few) (go (eqb (shared_at (reopened v) fs) 0) refl)
    where
      go : (t : Bool) → eqb (shared_at (reopened v) fs) 0 ≡ t
          → judged_by false (cond t no_overlap (overlap_at (shared_at (reopened v) fs) (length v.areas) 0)) (line_step (reopened v) fs).fault 0
          ≡ pair_answer (edit_fault v fs) (cond t no_overlap (overlap_at (shared_at (reopened v) fs) (length v.areas) 0))
      go true e = rw (line-former (reopened v) fs (eqb-true (shared_at (reopened v) fs) 0 e))
      go false e = rw (ne_eqb (length v.areas + 1) 0 (λ y. omega arith), line-overlap (reopened v) fs (eqb-false (shared_at (reopened v) fs) 0 e))

  line_answer : (line_applied (held_panel v) fs).answer ≡ pair_answer (edit_fault v fs) (edit_overlap v fs)
  unfolding line_applied
  line_answer =
      rw (reopened_same v)
      (line_judged (held_panel v).panel.grid.areas (line_shared (held_panel (reopened v)) fs) (line_in (held_panel (reopened v)) fs).fault (areas_same v)
      (line_shared_lem (reopened v) s fs)
      (line_fault_lem (reopened v) s fs))

  -- where there is none, not even an overlap
  step_clean : edit_fault v fs ≡ 0 → (line_step (reopened v) fs).fault ≡ 0
  step_clean z = go (eqb (shared_at (reopened v) fs) 0) refl
    where
      go : (t : Bool) → eqb (shared_at (reopened v) fs) 0 ≡ t → (line_step (reopened v) fs).fault ≡ 0
      go true e = sym (line-former (reopened v) fs (eqb-true (shared_at (reopened v) fs) 0 e)) ∙ z
      go false e =
          let twelve : edit_fault v fs ≡ 12 = line-overlap (reopened v) fs (eqb-false (shared_at (reopened v) fs) 0 e) in
          absurd (omega (arith, twelve, z))

  step_fault : (edit_step v fs).fault ≡ edit_fault v fs
  unfolding edit_step
  step_fault = go (eqb (edit_fault v fs) 0) refl
    where
      go : (t : Bool) → eqb (edit_fault v fs) 0 ≡ t → (cond t (accepted (line_step (reopened v) fs).panel) (refused (edit_fault v fs) v)).fault ≡ edit_fault v fs
      go true e = sym (eqb-true (edit_fault v fs) 0 e)
      go false e = refl

  line_held : edit_fault v fs ≡ 0 → (line_applied (held_panel v) fs).held ≡ held_panel (edit_step v fs).panel
  unfolding line_applied edit_step
  line_held z = rw (reopened_same v, eq-eqb (edit_fault v fs) 0 z) (line-held (reopened v) s fs (step_clean z))

-- the fault of an edit alone
line_alone : (v : PanelView) (fs : Line) → (edited_by v (line fs ∷ [])).fault ≡ (edit_step v fs).fault
unfolding edited_by
line_alone v fs = go (eqb (edit_step v fs).fault 0) refl
  where
    go : (t : Bool) → eqb (edit_step v fs).fault 0 ≡ t → (cond t (accepted (edit_step v fs).panel) (edit_step v fs)).fault ≡ (edit_step v fs).fault
    go true e = sym (eqb-true (edit_step v fs).fault 0 e)
    go false e = refl

by_edit : (v : PanelView) → FitsPanel v → (e : Edit) → (edit_applied (held_panel v) e).answer ≡ edit_answer v e
by_edit v f (line fs) = line_answer v f fs ∙ ap (λ (n : ℕ). pair_answer n (edit_overlap v fs)) (sym (line_alone v fs ∙ step_fault v f fs))
by_edit v f (enter c) = unfold edited_by in refl
by_edit v f unread = unfold edited_by in refl

-- a text is refused as its edit is, with its pair
pub text_answer : (v : PanelView) → FitsPanel v → (text : List ℕ) → (applied (held_panel v) text).answer ≡ edit_answer v (edit_of text)
unfolding applied
text_answer v f text = by_edit v f (edit_of text)

-- ---- one after the other

-- a refused text leaves nothing that is answered
pub record FollowsEdits (x : PanelStepped) (o : PanelOutcome) : Type 0 where
  pub fault : x.fault ≡ o.fault
  pub held : o.fault ≡ 0 → x.held ≡ held_panel o.panel

-- by the number of an answer alone
abbrev by_number : Applied → PanelStepped
by_number x = record { fault = x.answer.refusal.number; held = x.held }

-- an edit and texts after it
abbrev and_texts : List (List ℕ) → Applied → PanelStepped
and_texts texts x = cond (eqb x.answer.refusal.number 0) (stepped_by applied_step x.held texts) (by_number x)

module _ (texts : List (List ℕ)) (edits : List Edit) (rest : (v : PanelView) → FitsPanel v → FollowsEdits (stepped_by applied_step (held_panel v) texts) (edited_by v edits)) where
  line_first : (v : PanelView) → FitsPanel v → (fs : Line) → FollowsEdits (and_texts texts (line_applied (held_panel v) fs)) (edited_by v (line fs ∷ edits))
  unfolding edited_by
  line_first v f fs = go (eqb (edit_step v fs).fault 0) refl
    where
      number : (line_applied (held_panel v) fs).answer.refusal.number ≡ (edit_step v fs).fault
      number = ap (λ (a : SheetAnswer). a.refusal.number) (line_answer v f fs) ∙ sym (step_fault v f fs)

      go : (t : Bool) → eqb (edit_step v fs).fault 0 ≡ t
          → FollowsEdits (and_texts texts (line_applied (held_panel v) fs)) (cond t (edited_by (edit_step v fs).panel edits) (edit_step v fs))
      go true e =
          let z : edit_fault v fs ≡ 0 = sym (step_fault v f fs) ∙ eqb-true (edit_step v fs).fault 0 e in
          rw (number, e, line_held v f fs z) (rest (edit_step v fs).panel (edit_fits v f fs))
      go false e = rw (number, e) (record { fault = refl; held = λ y. absurd (eqb-false (edit_step v fs).fault 0 e y) })

  edit_first : (v : PanelView) → FitsPanel v → (e : Edit) → FollowsEdits (and_texts texts (edit_applied (held_panel v) e)) (edited_by v (e ∷ edits))
  edit_first v f (line fs) = line_first v f fs
  edit_first v f (enter c) = unfold edited_by in rest v f
  edit_first v f unread = unfold edited_by in record { fault = refl; held = λ y. absurd (omega (arith, y)) }

pub texts_follow : (texts : List (List ℕ)) (v : PanelView) → FitsPanel v → FollowsEdits (stepped_by applied_step (held_panel v) texts) (edited_by v (map edit_of texts))
unfolding stepped_by applied
texts_follow [] v f = unfold edited_by in record { fault = refl; held = λ y. refl }
texts_follow (text ∷ texts) v f = edit_first texts (map edit_of texts) (texts_follow texts) v f (edit_of text)
