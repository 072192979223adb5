-- `text::read_digits` meets its contract: held, the number that the whole writes is what the bytes from the next on write after `v`. Assumes nothing.
use Rattle.std.proofs.Common.{ℕ, ◌+◌, sym, ap, ◌∙◌, drop, arith}
use Rattle.text.specs.Whole.{digits_of}
use Rattle.text.specs.Steps.{held}
use Rattle.text.proofs.Held.{no_digit, digits-next, digits-end}
use Rattle.text.proofs.whole.read_digits.Goals as goal

pub returns-then-not-is_ascii_digit : goal.returns-then-not-is_ascii_digit
returns-then-not-is_ascii_digit c =
    let l = c.loop-b in
    sym (l.invariant.1 ∙ no_digit _ l.b-index l.v c.loop-b-test.true c.if-not-is_ascii_digit.ensures.cases)

pub loop-b-preserved : goal.loop-b-preserved
loop-b-preserved c =
    let l = c.loop-b in (
      omega (arith, c.hold-v.ensures),
      l.invariant.1 ∙ digits-next _ l.b-index l.v c.loop-b-test.true c.if-not-is_ascii_digit.ensures.cases.0 c.if-not-is_ascii_digit.ensures.cases.1
          ∙ ap (λ (k : ℕ). held (digits_of k (drop (l.b-index + 1) c.args.s.now))) (sym c.hold-v.ensures),
    )

pub returns : goal.returns
returns c =
    let l = c.loop-b in
    sym (l.invariant.1 ∙ digits-end _ l.b-index l.v (omega arith) l.invariant.0)
