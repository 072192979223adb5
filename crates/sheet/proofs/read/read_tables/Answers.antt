use Rattle.std.proofs.Common.{rules}
use mathlib.Core.Path.{◌∙◌}
use native.Mathlib.Omega.{arith}
use lib.ListN.{replicate}
use Rattle.std.proofs.lemmas.Result.{err_from_is_err_and}
use Rattle.panel_tables.specs.Readings.{panel_reading}
use Rattle.panel_tables.specs.Written.{panel_held_of}
use Rattle.sheet_rules.specs.Answers.{noted}
use Rattle.sheet_rules.specs.Panels.{tables_in}
use Rattle.sheet_step.specs.Drafts.{held_of}
use Rattle.sheet.proofs.Answers.{read_long, start-zero, pair-noted, judged-refused, read_short, read_done, answer_in_lem, tells_pair}
use Rattle.sheet.proofs.read.read_tables.Goals as goal

pub returns-then-sheet-gt-SHEET_BYTES-clause-read : goal.returns-then-sheet-gt-SHEET_BYTES-clause-read
returns-then-sheet-gt-SHEET_BYTES-clause-read c =
    let a = c.args in
    read_long a.former a.sheet.now (tables_in a.words.now a.bytes.now a.columnstore.now a.rowstore.now) (omega (arith, c.if-sheet-gt-SHEET_BYTES.true))

pub returns-in_err-judged-clause-read : goal.returns-in_err-judged-clause-read
returns-in_err-judged-clause-read c =
    let a = c.args in
    let k = c.read_panel-run in
    let p = err_from_is_err_and c.from_residual.result c.from_residual.ensures.1 in
    rw (p.1, p.2) (judged-refused a.former a.sheet.now (omega arith) k.result.end (held_of k.new.draft) (panel_held_of c.default.result (panel_reading c.default-2.result) (replicate 26368 0) (replicate 94816 0) (replicate 32768 0) (replicate 32768 0)) (start-zero _ _ (search rules) c.default-2.ensures) k.ensures.run (noted k.result.overlap) k.ensures.overlap _ c.in_err-judged.ensures (tables_in a.words.now a.bytes.now a.columnstore.now a.rowstore.now))

pub returns-then-shorter-lt-AXIS_BYTES-clause-read : goal.returns-then-shorter-lt-AXIS_BYTES-clause-read
returns-then-shorter-lt-AXIS_BYTES-clause-read c =
    let a = c.args in
    let k = c.read_panel-run in
    read_short a.former a.sheet.now (omega arith) k.result.end (held_of k.new.draft) (panel_held_of c.default.result (panel_reading c.default-2.result) (replicate 26368 0) (replicate 94816 0) (replicate 32768 0) (replicate 32768 0)) (start-zero _ _ (search rules) c.default-2.ensures) k.ensures.run (noted k.result.overlap) k.ensures.overlap a.words.now a.bytes.now a.columnstore.now a.rowstore.now c.in_ok-judged.ensures c.min-shorter.result c.min-shorter.ensures c.if-shorter-lt-AXIS_BYTES.true

pub returns-clause-read : goal.returns-clause-read
returns-clause-read c =
    let a = c.args in
    let k = c.read_panel-run in
    rw c.copy_out.ensures
    (answer_in_lem (noted k.result.overlap) k.new.draft a.words.now a.bytes.now a.columnstore.now a.rowstore.now
    ∙ read_done a.former a.sheet.now (omega arith) k.result.end (held_of k.new.draft) (panel_held_of c.default.result (panel_reading c.default-2.result) (replicate 26368 0) (replicate 94816 0) (replicate 32768 0) (replicate 32768 0)) (start-zero _ _ (search rules) c.default-2.ensures) k.ensures.run (noted k.result.overlap) k.ensures.overlap a.words.now a.bytes.now a.columnstore.now a.rowstore.now c.in_ok-judged.ensures c.min-shorter.result c.min-shorter.ensures c.if-shorter-lt-AXIS_BYTES.false)

pub returns-in_err-judged-clause-fault : goal.returns-in_err-judged-clause-fault
returns-in_err-judged-clause-fault c =
    let a = c.args in
    let k = c.read_panel-run in
    let t = tables_in a.words.now a.bytes.now a.columnstore.now a.rowstore.now in
    let p = err_from_is_err_and c.from_residual.result c.from_residual.ensures.1 in
    rw p.1
    (tells_pair a.former a.sheet.now t t p.0 (rw p.2 (judged-refused a.former a.sheet.now (omega arith) k.result.end (held_of k.new.draft) (panel_held_of c.default.result (panel_reading c.default-2.result) (replicate 26368 0) (replicate 94816 0) (replicate 32768 0) (replicate 32768 0)) (start-zero _ _ (search rules) c.default-2.ensures) k.ensures.run (noted k.result.overlap) k.ensures.overlap _ c.in_err-judged.ensures t)))

pub returns-clause-pair : goal.returns-clause-pair
returns-clause-pair c =
    let k = c.read_panel-run in
    pair-noted c.args.sheet.now (omega arith) (panel_held_of c.default.result (panel_reading c.default-2.result) (replicate 26368 0) (replicate 94816 0) (replicate 32768 0) (replicate 32768 0)) (start-zero _ _ (search rules) c.default-2.ensures) (noted k.result.overlap) k.ensures.overlap
