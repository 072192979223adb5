use Rattle.std.specs.Prelude.{None, Some}
use mathlib.Core.Path.{refl, sym, ap, ◌∙◌}
use mathlib.Core.List.{List}
use Prim.Native.Nat.{ℕ}
use Rattle.text.specs.Split.{split}
use Rattle.text.specs.Whole.{whole_of, count_in}
use Rattle.sheet_forms.specs.Fields.{axis_of}
use Rattle.panel_edits.specs.Texts.{line_read}
use Rattle.panel_edits.proofs.TextParts.{entry_same}
use Rattle.panel_edits.proofs.texts.read_entry.Goals as goal

pub returns-in_err-axis : goal.returns-in_err-axis
returns-in_err-axis c =
    rw c.from_residual.ensures
    (entry_same (split 9 c.args.text.now) c.axis.result None _ (sym c.fields.ensures ∙ c.if-fields-ne-ENTRY_FIELDS.false) (c.axis.ensures ∙ ap axis_of c.part.ensures)
    (sym c.in_err-axis.was ∙ c.ok.ensures.value) refl)

pub returns-in_err-line : goal.returns-in_err-line
returns-in_err-line c =
    rw c.from_residual-in_err-line.ensures
    (entry_same (split 9 c.args.text.now) c.axis.result (Some c.in_ok-axis.axis) None (sym c.fields.ensures ∙ c.if-fields-ne-ENTRY_FIELDS.false) (c.axis.ensures ∙ ap axis_of c.part.ensures)
    (sym c.in_ok-axis.was ∙ c.ok.ensures.value)
    (c.in_err-line.ensures ∙ ap (λ (f : List ℕ). line_read (count_in 1 20000 (whole_of f))) c.part-2.ensures))

pub returns : goal.returns
returns c =
    rw c.part-name.ensures
    (entry_same (split 9 c.args.text.now) c.axis.result (Some c.in_ok-axis.axis) (Some c.in_ok-line.line) (sym c.fields.ensures ∙ c.if-fields-ne-ENTRY_FIELDS.false) (c.axis.ensures ∙ ap axis_of c.part.ensures)
    (sym c.in_ok-axis.was ∙ c.ok.ensures.value)
    (c.in_ok-line.ensures ∙ ap (λ (f : List ℕ). line_read (count_in 1 20000 (whole_of f))) c.part-2.ensures))
