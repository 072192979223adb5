use Rattle.std.proofs.Common.{arith, rules, ◌≤◌, ◌∙◌, length, ap}
use Rattle.std.specs.Fmt as Std
use Rattle.text.proofs.Digits.{decimal_same, digits-few}
use Rattle.text.proofs.decimal.Decimal.new.Goals as goal

pub write_digits-start-requires : goal.write_digits-start-requires
write_digits-start-requires c =
    let n = c.args.number in
    let few : length (Std.decimal n) ≤ 20 = omega (arith, ap length (decimal_same n c.ranges.number.fits), digits-few n c.ranges.number.fits) in
    (few, omega arith)

pub returns : goal.returns
returns c = c.write_digits-start.ensures.written ∙ search (rules, decimal_same c.args.number c.ranges.number.fits)
