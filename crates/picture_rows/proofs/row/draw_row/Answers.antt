-- `picture_rows::draw_row` meets its contract. Assumes nothing.
use Rattle.std.proofs.Common.{rules, ◌≡◌, Err}
use Rattle.picture_words.specs.Words.{words_of}
use Rattle.picture_rows.proofs.Settled.{row_taken, row_refused}
use Rattle.picture_rows.proofs.row.draw_row.Goals as goal

pub returns-in_err-drawn : goal.returns-in_err-drawn
returns-in_err-drawn c =
    let a = c.args in
    let words = c.words_in-width in
    let fault : c.from_residual.result ≡ Err c.in_err-drawn.field-0.0 = search rules in
    row_refused a.panel a.words.now a.bytes.now (words_of a.line.now) a.row words.result words.ensures
    c.if-width-gt-MOST_WORDS.false c.if-row-gt-MOST_ROWS.false _ _ c.draw_runs.result c.draw_runs.ensures
    c.in_err-drawn.field-0.0 c.in_err-drawn.was c.from_residual.result fault

pub returns : goal.returns
returns c =
    let a = c.args in
    let words = c.words_in-width in
    row_taken a.panel a.words.now a.bytes.now (words_of a.line.now) a.row words.result words.ensures
    c.if-width-gt-MOST_WORDS.false c.if-row-gt-MOST_ROWS.false _ _ c.draw_runs.result c.draw_runs.ensures
    c.in_ok-drawn.drawn c.in_ok-drawn.was c.picture_edges-edges.result c.picture_edges-edges.ensures c.spanned.result c.spanned.ensures
