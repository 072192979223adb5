-- `text::read_count` meets its contract: the hold does not show in a range below it. Assumes nothing.
use Rattle.std.proofs.Common.{rules, ◌≡◌, sym, ap, ◌∙◌, arith, Ok, Err, pos}
use Rattle.text.specs.Whole.{whole_of}
use Rattle.text.specs.Steps.{within, held_whole}
use Rattle.text.proofs.Held.{count_held, counted, count_most, refused}
use Rattle.text.proofs.Signs.{count-back}
use Rattle.text.proofs.whole.read_count.Goals as goal

pub returns-in_err-read_within : goal.returns-in_err-read_within
returns-in_err-read_within c =
    let a = c.args in
    let e : c.from_residual.result ≡ Err c.in_err-read_within.field-0.0 = search rules in
    let h : within (pos a.least) (pos a.most) (held_whole (whole_of a.s.now)) ≡ Err c.in_err-read_within.field-0.0 = search rules in
    e ∙ sym (refused a.least a.most (whole_of a.s.now) _ (sym (count_held a.least a.most (whole_of a.s.now) (omega (arith, c.ranges.most))) ∙ h))

pub returns : goal.returns
returns c =
    let a = c.args in
    let h : within (pos a.least) (pos a.most) (held_whole (whole_of a.s.now)) ≡ Ok c.in_ok-read_within.field-0 = search rules in
    let n = counted a.least a.most (whole_of a.s.now) c.in_ok-read_within.field-0 (sym (count_held a.least a.most (whole_of a.s.now) (omega (arith, c.ranges.most))) ∙ h) in
    let m = count_most a.least a.most (whole_of a.s.now) n.0 n.1 in
    ap Ok (count-back c.in_ok-read_within.field-0 n.0 n.2 (omega (arith, m, c.ranges.most))) ∙ sym n.1
