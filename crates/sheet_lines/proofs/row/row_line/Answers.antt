use Rattle.std.proofs.Common.{rules, refl, ◌≡◌, Err, sym, ap, ◌∙◌, arith}
use Rattle.coordinates.specs.Refusals.{number_of, refused_by}
use Rattle.text.specs.Split.{split}
use Rattle.sheet_forms.proofs.Together.{fault_some}
use Rattle.sheet_lines.proofs.Rows.{row-none, row-bad, row-good, row-few}
use Rattle.sheet_lines.proofs.row.row_line.Goals as goal

pub returns-then-words-eq0 : goal.returns-then-words-eq0
returns-then-words-eq0 c = row-none _ _ c.words_in-words.ensures c.if-words-eq0.true

pub returns-in_err-check_row : goal.returns-in_err-check_row
returns-in_err-check_row c =
    let f = c.in_err-check_row.field-0.0 in
    let fault : c.from_residual.result ≡ Err f = search rules in
    rw fault (row-bad _ _ c.words_in-words.ensures c.if-words-eq0.false (number_of f) (ap refused_by (sym c.in_err-check_row.was) ∙ c.check_row.ensures) (fault_some f))

pub overflow_cast-result : goal.overflow_cast-result
overflow_cast-result c =
    let few = row-few (split 9 c.args.line.now) _ c.words_in-words.ensures c.if-words-eq0.false 0 (ap refused_by (sym c.in_ok-check_row.was) ∙ c.check_row.ensures) refl in
    record { fits = omega (arith, few) }

pub returns : goal.returns
returns c = row-good _ _ c.words_in-words.ensures c.if-words-eq0.false 0 (ap refused_by (sym c.in_ok-check_row.was) ∙ c.check_row.ensures) refl
