use Rattle.std.proofs.Common.{refl, arith}
use Rattle.sheet_lines.proofs.Cuts.{parts_some}
use Rattle.sheet_lines.proofs.fields.Fields.cut.Goals as goal

pub returns : goal.returns
returns c =
    let cut = c.cut_parts-count.ensures in
    record { line = refl; count = cut.0; some = omega (arith, cut.0, parts_some 9 c.args.line.now); starts = cut.1 }
