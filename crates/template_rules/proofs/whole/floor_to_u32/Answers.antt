use Rattle.std.proofs.Common.{ℕ, ◌^◌, ◌<◌, T, sym, ◌∙◌, subst}
use lib.Ieee.{of_bits, neg}
use Rattle.template_rules.proofs.Rounding.{under_64, cut_is_floor, floor_lt, floor_large, floor_low}
use Rattle.template_rules.proofs.whole.floor_to_u32.Goals as goal

pub truncating_f32_to_u64-requires-clause-lower_bound : goal.truncating_f32_to_u64-requires-clause-lower_bound
unfolding of_bits neg
truncating_f32_to_u64-requires-clause-lower_bound c = subst T (sym c.if-x.true) tt

pub truncating_f32_to_u64-requires-clause-upper_bound : goal.truncating_f32_to_u64-requires-clause-upper_bound
unfolding of_bits neg
truncating_f32_to_u64-requires-clause-upper_bound c = under_64 c.args.x (subst T (sym c.if-x-2.true) tt)

pub overflow_cast-result : goal.overflow_cast-result
unfolding of_bits neg
overflow_cast-result c =
    record { fits = subst (λ (k : ℕ). k < 2 ^ 32) (sym (c.truncating_f32_to_u64.ensures ∙ cut_is_floor c.args.x (subst T (sym c.if-x-2.true) tt))) (floor_lt c.args.x) }

pub returns-then-x-2 : goal.returns-then-x-2
unfolding of_bits neg
returns-then-x-2 c = c.truncating_f32_to_u64.ensures ∙ cut_is_floor c.args.x (subst T (sym c.if-x-2.true) tt)

pub returns-then-x : goal.returns-then-x
unfolding of_bits neg
returns-then-x c = floor_large c.args.x c.if-x.true c.if-x-2.false

pub returns : goal.returns
unfolding of_bits neg
returns c = floor_low c.args.x c.if-x.false
