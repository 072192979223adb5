use mathlib.Core.Path.{◌∙◌}
use Rattle.given_placements.proofs.Tables.{put-none, put-refused, put-after}
use Rattle.given_placements.proofs.put.put_all.Goals as goal

pub returns-in-Err : goal.returns-in-Err
returns-in-Err c = let l = c.loop-index in
    put-refused c.args.given.now l.index _ c.loop-index-test.true l.panel l.words l.bytes l.rest.now c.put_given.new.words c.put_given.new.bytes c.in-Err.fault c.in-Err.ensures ∙ l.invariant

pub loop-index-preserved : goal.loop-index-preserved
loop-index-preserved c = let l = c.loop-index in
    put-after c.args.given.now l.index _ c.loop-index-test.true l.panel l.words l.bytes l.rest.now c.put_given.new.words c.put_given.new.bytes c.in-Ok.after c.names_after-rest.result.now c.in-Ok.ensures
    c.names_after-rest.ensures
    ∙ l.invariant

pub returns : goal.returns
returns c = let l = c.loop-index in put-none c.args.given.now l.index c.loop-index-test.false l.panel l.words l.bytes l.rest.now ∙ l.invariant
