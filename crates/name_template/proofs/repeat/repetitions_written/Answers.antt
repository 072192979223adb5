use native.Mathlib.Omega.{arith}
use mathlib.Core.Path.{sym}
use Rattle.name_template.specs.Steps.{repetitions_written}
use Rattle.name_template.proofs.Repeats.{written-past, written_still, written-most}
use Rattle.name_template.proofs.repeat.repetitions_written.Goals as goal

pub returns-then-times-eq0 : goal.returns-then-times-eq0
unfolding repetitions_written
returns-then-times-eq0 c = rw c.if-times-eq0.true

pub returns-then-line-gt-LAST_WRITTEN : goal.returns-then-line-gt-LAST_WRITTEN
returns-then-line-gt-LAST_WRITTEN c = let a = c.args in sym (written-past a.times a.line a.tracks c.if-times-eq0.false c.if-line-gt-LAST_WRITTEN.true)

pub returns-then-tracks-eq0 : goal.returns-then-tracks-eq0
returns-then-tracks-eq0 c = let a = c.args in sym (written_still a.times a.line a.tracks c.if-line-gt-LAST_WRITTEN.false c.if-tracks-eq0.true)

pub returns : goal.returns
returns c = let a = c.args in let m = written-most a.times a.line a.tracks (omega arith) (omega arith) in omega arith
