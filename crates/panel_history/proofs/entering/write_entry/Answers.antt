use Rattle.std.proofs.Common.{rules, arith, ap, ◌∙◌, length, ◌≡◌}
use Rattle.panel_history.proofs.Enters.{length-head, entry-written, entry-short}
use Rattle.panel_history.proofs.entering.write_entry.Goals as goal

pub overflow_add-result : goal.overflow_add-result
overflow_add-result c =
    let e = c.args.entry in
    let n : c.from.result ≡ e.line = search rules in
    let at : length c.entry_head-head.result.now ≡ 8 = ap length c.entry_head-head.ensures ∙ length-head e.axis e.line e.name.now (omega arith) c.requires in
    omega (arith, entry-short e.axis e.line e.name.now (omega arith) c.requires _ _ at (rw n at c.len.ensures))

pub returns : goal.returns
returns c =
    let e = c.args.entry in
    let n : c.from.result ≡ e.line = search rules in
    let at : length c.entry_head-head.result.now ≡ 8 = ap length c.entry_head-head.ensures ∙ length-head e.axis e.line e.name.now (omega arith) c.requires in (
      entry-written e.axis e.line e.name.now (omega arith) c.requires c.args.bytes.now (omega arith) _ c.entry_head-head.ensures _ c.put_bytes.ensures _ at _ (rw n at c.write.ensures.bytes) _ (rw n at c.len.ensures),
      omega (arith, entry-short e.axis e.line e.name.now (omega arith) c.requires _ _ at (rw n at c.len.ensures)),
    )
