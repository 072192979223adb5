use Rattle.std.proofs.Common.{arith, ◌≡◌, rules}
use Rattle.text.specs.Decimal.{decimal}
use Rattle.panel_text.proofs.Decimals.{add_decimal}
use Rattle.panel_text.proofs.line.PrintedLine.decimal.Goals as goal

pub returns : goal.returns
returns c =
    let digits : c.as_bytes.result.now ≡ decimal c.args.number = search rules in
    add_decimal c.args.number digits (omega arith) c.word.ensures
