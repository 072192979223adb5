use native.Mathlib.Omega.{arith}
use mathlib.Core.Path.{sym}
use Rattle.name_template.proofs.Repeats.{after-times, line_bound}
use Rattle.name_template.proofs.repeat.line_after.Goals as goal

pub overflow_mul-result : goal.overflow_mul-result
overflow_mul-result c = let a = c.args in
    let e = after-times a.times a.line a.tracks c.if-times-eq0.false in
    let b = line_bound a.times a.line a.tracks 4294967296 (omega arith) (omega arith) in
    rw c.requires.counted (omega arith)

pub overflow_add-result-2 : goal.overflow_add-result-2
overflow_add-result-2 c = let a = c.args in
    let e = after-times a.times a.line a.tracks c.if-times-eq0.false in
    let b = line_bound a.times a.line a.tracks 4294967296 (omega arith) (omega arith) in
    rw c.requires.counted (omega arith)

pub returns : goal.returns
returns c = let a = c.args in
    let e = after-times a.times a.line a.tracks c.if-times-eq0.false in
    let b = line_bound a.times a.line a.tracks 4294967296 (omega arith) (omega arith) in
    rw c.requires.counted (sym e)
