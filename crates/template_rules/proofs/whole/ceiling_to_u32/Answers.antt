use Rattle.std.proofs.Common.{◌≡◌, true, false, T, sym, ◌∙◌, subst, add-zero, rules}
use lib.Ieee.{fits, binary32}
use Rattle.template_rules.proofs.Rounding.{ceiling_small, ceiling_large}
use Rattle.template_rules.proofs.whole.ceiling_to_u32.Goals as goal

pub returns-then-back-x : goal.returns-then-back-x
returns-then-back-x c = ceiling_small c.args.x c.floor_to_u32-n.result true c.floor_to_u32-n.ensures c.if-n-lt16777216.true c.if-back-x.true

pub returns-then-n-lt16777216 : goal.returns-then-n-lt16777216
returns-then-n-lt16777216 c = sym (add-zero c.floor_to_u32-n.result) ∙ ceiling_small c.args.x c.floor_to_u32-n.result false c.floor_to_u32-n.ensures c.if-n-lt16777216.true c.if-back-x.false

pub returns : goal.returns
returns c =
    let h : fits binary32 c.args.x ≡ true = search rules in
    ceiling_large c.args.x c.floor_to_u32-n.result (subst T (sym h) tt) c.floor_to_u32-n.ensures c.if-n-lt16777216.false
