use Rattle.std.proofs.Common.{arith, length, ◌≡◌, ◌∙◌, sym, ap}
use lib.ListN.{length-take}
use Rattle.text.specs.Decimal.{decimal}
use Rattle.history_lines.proofs.Steps.{length_line, feed_room}
use Rattle.history_lines.proofs.write.StepLine.fill.Goals as goal

pub slice_bounds-copy_over-end-2 : goal.slice_bounds-copy_over-end-2
slice_bounds-copy_over-end-2 c =
    let tab = length c.as_bytes-tab.result.now in
    omega (arith, length_line c.args.self.number c.args.self.text.now, c.requires, ap length (c.as_bytes-tab.ensures ∙ c.new-digits.ensures), length-take tab c.args.line.now)

pub copy_over-requires : goal.copy_over-requires
copy_over-requires c =
    let tab = length c.as_bytes-tab.result.now in
    let same = ap length (c.as_bytes.ensures ∙ sym c.as_bytes-tab.ensures) in
    omega (arith, length_line c.args.self.number c.args.self.text.now, c.requires, ap length (c.as_bytes-tab.ensures ∙ c.new-digits.ensures), length-take tab c.args.line.now, same)

pub bounds-line-end : goal.bounds-line-end
bounds-line-end c =
    let digits : c.as_bytes-tab.result.now ≡ decimal c.args.self.number = c.as_bytes-tab.ensures ∙ c.new-digits.ensures in
    feed_room c.args.self.number c.args.self.text.now c.args.line.now c.as_bytes-tab.result.now c.copy_over.new.bytes c.copy_over-2.new.bytes
    digits c.requires (c.copy_over.ensures ∙ c.as_bytes.ensures ∙ sym c.as_bytes-tab.ensures) c.copy_over-2.ensures
