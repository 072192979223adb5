use Rattle.std.specs.Prelude.{Result, Ok, Err}
use Rattle.std.specs.Result.{result_err}
use Prim.Native.Nat.{ℕ}
use mathlib.Core.Path.{◌≡◌, refl, ap, ◌∙◌}
use mathlib.Core.List.{List}
use Rattle.text.specs.Split.{split}
use Rattle.coordinates.specs.declared.refusal.Fault.{Fault}
use Rattle.coordinates.specs.Refusals.{fault_number, refused_by}
use Rattle.panel_tables.specs.Written.{PanelHeld, panel_held_of}
use Rattle.panel_cells.specs.Steps.{area_number_of}
use Rattle.sheet_forms.specs.Answers.{said_of}
use Rattle.sheet_forms.specs.Faults.{first_of}
use Rattle.sheet_forms.specs.Said.{Record}
use Rattle.sheet_faults.specs.Lines.{noted_by}
use Rattle.sheet_faults.specs.Parts.{before_of, shared_of}
use Rattle.sheet_faults.proofs.Parts.{names_of, line-by, line-noted}
use Rattle.sheet_step.specs.Drafts.{held_of, names_at}
use Rattle.panel_tables.specs.Readings.{Reading, panel_reading}
use Rattle.sheet_step.proofs.read_line.Goals as goal

-- the fault of a refusal has its number
err-number : (r : Result (Unit {0}) Fault) → fault_number (result_err r) ≡ refused_by r
err-number (Ok u) = refl
err-number (Err fault) = refl

-- the faults of a record, and the first area that shares a cell with it, over the same tables
before-same : {k k₁ : ℕ} {w w₁ b b₁ n n₁ : List ℕ} (r : Reading) (said : Record) → k ≡ k₁ → w ≡ w₁ → b ≡ b₁ → n ≡ n₁
    → before_of k r w b n said ≡ before_of k₁ r w₁ b₁ n₁ said
before-same r said ek ew eb en = rw (ek, ew, eb, en) refl

shared-same : {k k₁ : ℕ} {w w₁ : List ℕ} (said : Record) → k ≡ k₁ → w ≡ w₁ → shared_of k w said ≡ shared_of k₁ w₁ said
shared-same said ek ew = rw (ek, ew) refl

pub returns : goal.returns
unfolding panel_held_of
returns c =
    let d = c.args.draft.now in
    let h : PanelHeld = held_of d in
    let fs : List (List ℕ) = split 9 c.args.line.now in
    let there = c.read_record-there in
    let names : names_at c.args.line.now there.result ≡ names_of fs (said_of there.result.said) =
    λ i. record { first = there.ensures.first i; second = there.ensures.second i; third = there.ensures.third i; fourth = there.ensures.fourth i } in
    let areas = c.areas-areas.ensures in
    let earlier =
    c.fault_before-before.ensures
    ∙ before-same (panel_reading d.reading) (said_of there.result.said) areas.count areas.words areas.bytes c.part_at.ensures in
    let sharing = c.shared-with.ensures ∙ shared-same (said_of there.result.said) areas.count areas.words in
    let written : fault_number c.err-written.result ≡ refused_by c.write.result = ap fault_number c.err-written.ensures.value ∙ err-number c.write.result in record {
      read = rw c.next_line-draft.ensures
          (line-by h fs there.ensures.said names earlier c.write.ensures c.stage-reached.ensures
          (c.first_fault.ensures ∙ ap (first_of (fault_number c.fault_before-before.result)) written));
      overlap = line-noted h fs there.ensures.said names earlier c.write.ensures sharing
          (c.noted.ensures ∙ ap (noted_by (fault_number c.fault_before-before.result) (area_number_of c.shared-with.result)) written);
    }
