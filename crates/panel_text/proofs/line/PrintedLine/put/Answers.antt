use Rattle.std.proofs.Common.{ap, ◌∙◌, ◌++◌, List, ℕ, drop, arith}
use Rattle.panel_text.proofs.Puts.{line_cut}
use Rattle.panel_text.proofs.line.PrintedLine.put.Goals as goal

pub returns-clause-bytes : goal.returns-clause-bytes
returns-clause-bytes c =
    let l = c.self.inside in
    ap (λ (x : List ℕ). x ++ drop c.min-most.result c.args.out.now) c.copy_from_slice.ensures.after
    ∙ line_cut l.bytes c.args.out.now c.args.self.now l.count c.min-most.result c.self.view_is (omega (arith, c.self.told, c.self.invariant)) c.min-most.ensures
