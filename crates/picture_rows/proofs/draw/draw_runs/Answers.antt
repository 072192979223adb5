-- `picture_rows::draw_runs` meets its contract: the runs from a place on are left to draw. Assumes nothing.
use mathlib.Core.Path.{◌≡◌, refl, sym, ap, ◌∙◌}
use mathlib.Core.List.{List}
use native.Mathlib.Omega.{arith}
use lib.ListN.{length}
use Rattle.picture_rules.specs.Picture.{Word}
use Rattle.picture_rules.specs.Steps.{runs_of}
use Rattle.picture_words.specs.Words.{words_of, words_left}
use Rattle.picture_words.proofs.Words.{words_all}
use Rattle.std.proofs.Common.{rules, Result, Ok, Err}
use Rattle.coordinates.specs.declared.refusal.Fault.{Fault}
use Rattle.picture_areas.specs.declared.draw.PictureAfter.{PictureAfter}
use Rattle.picture_rows.specs.Steps.{settled, started, runs_in}
use Rattle.picture_rows.proofs.Runs.{room_here, room_next, next-later, runs_end}
use Rattle.picture_rows.proofs.Settled.{state, settled_so, turn_drawn, turn_refused}
use Rattle.picture_rows.proofs.draw.draw_runs.Goals as goal

pub loop-at-init : goal.loop-at-init
loop-at-init c =
    let line = c.args.line.now in
    let e : words_left line c.first_word-at.result ≡ words_of line = ap (words_left line) c.first_word-at.ensures ∙ words_all line in
    (omega (arith, ap length e, c.requires), ap (λ (ws : List Word). runs_in c.args.row 1 (runs_of ws) (started c.args.panel c.args.words.now c.args.bytes.now)) (sym e))

pub run_edges-edges-requires : goal.run_edges-edges-requires
run_edges-edges-requires c = room_here c.loop-at.column c.args.line.now c.loop-at.at c.run_at-run.result c.run_at-run.ensures c.loop-at.invariant.0

pub returns-in_err-drawn : goal.returns-in_err-drawn
returns-in_err-drawn c =
    let a = c.args in
    let l = c.loop-at in
    let f = c.in_err-drawn.field-0.0 in
    let fault : c.from_residual.result ≡ Err f = search rules in
    ap (λ (r : Result PictureAfter Fault). state a.panel r c.run_step.new.words c.run_step.new.bytes) fault
    ∙ turn_refused a.row l.column a.line.now l.at (omega (arith, c.loop-at-test.true)) c.run_at-run.result c.run_at-run.ensures c.word_at-word.result.now c.word_at-word.ensures c.run_edges-edges.result c.run_edges-edges.ensures
    l.drawn.panel (state l.drawn.panel (Ok l.drawn) l.words l.bytes) c.run_step.result _ _ c.run_step.ensures f c.in_err-drawn.was a.panel
    ∙ ap (settled a.panel) (sym l.invariant.1)

pub loop-at-smaller : goal.loop-at-smaller
loop-at-smaller c =
    let run = c.run_at-run in
    omega (arith, next-later c.args.line.now c.loop-at.at run.result run.ensures (omega (arith, c.loop-at-test.true)))

pub loop-at-preserved : goal.loop-at-preserved
loop-at-preserved c =
    let a = c.args in
    let l = c.loop-at in (
      room_next a.row l.column a.line.now l.at c.run_at-run.result c.run_at-run.ensures c.run_edges-edges.result c.run_edges-edges.ensures l.invariant.0,
      l.invariant.1
          ∙ turn_drawn a.row l.column a.line.now l.at (omega (arith, c.loop-at-test.true)) c.run_at-run.result c.run_at-run.ensures c.word_at-word.result.now c.word_at-word.ensures c.run_edges-edges.result c.run_edges-edges.ensures
          l.drawn.panel (state l.drawn.panel (Ok l.drawn) l.words l.bytes) c.run_step.result _ _ c.run_step.ensures c.in_ok-drawn.drawn c.in_ok-drawn.was,
    )

pub returns : goal.returns
returns c =
    let a = c.args in
    let l = c.loop-at in
    let x = state a.panel (Ok l.drawn) l.words l.bytes in
    sym (settled_so a.panel x refl)
    ∙ ap (settled a.panel) (sym (l.invariant.1 ∙ runs_end a.row l.column a.line.now l.at x (omega (arith, c.loop-at-test.false))))
