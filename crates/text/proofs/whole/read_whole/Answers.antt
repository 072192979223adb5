-- `text::read_whole` meets its contract: the sign, and what the digits after it write. Assumes nothing.
use Rattle.std.proofs.Common.{rules, ◌≡◌, sym, ap, ◌∙◌, ◌-◌, length, take, arith, drop, Some}
use Rattle.text.specs.Whole.{whole_of, natural_of, negative, non_negative}
use Rattle.text.specs.Steps.{held_whole}
use Rattle.text.proofs.Held.{first_bytes, unread_above, unread_below, held_top, read_above, read_zero, read_below}
use Rattle.text.proofs.Signs.{wide, minus-fits, minus-back}
use Rattle.text.proofs.whole.read_whole.Goals as goal

pub returns-in_err-n-in-45 : goal.returns-in_err-n-in-45
returns-in_err-n-in-45 c =
    let e : whole_of c.args.s.now ≡ negative (natural_of (take (length c.args.s.now - 1) (drop 1 c.args.s.now))) = search (rules, first_bytes) in
    c.from_residual.ensures ∙ sym (ap held_whole e ∙ unread_below _ (sym c.natural.ensures ∙ c.in_err-n-in-45.was))

pub overflow_cast-result : goal.overflow_cast-result
overflow_cast-result c = let h = held_top _ _ (sym c.natural.ensures ∙ c.in_ok-n-in-45.was) in record { sfits = omega arith }

pub overflow_sub-result : goal.overflow_sub-result
overflow_sub-result c = minus-fits _ (held_top _ _ (sym c.natural.ensures ∙ c.in_ok-n-in-45.was)) (search rules)

pub returns-in-0 : goal.returns-in-0
returns-in-0 c =
    let e : whole_of c.args.s.now ≡ negative (natural_of (take (length c.args.s.now - 1) (drop 1 c.args.s.now))) = search (rules, first_bytes) in
    sym (ap held_whole e ∙ read_zero _ (sym c.natural.ensures ∙ c.in_ok-n-in-45.was ∙ ap Some c.in-0.is))

pub returns-in_default-2 : goal.returns-in_default-2
returns-in_default-2 c =
    let e : whole_of c.args.s.now ≡ negative (natural_of (take (length c.args.s.now - 1) (drop 1 c.args.s.now))) = search (rules, first_bytes) in
    let was = sym c.natural.ensures ∙ c.in_ok-n-in-45.was in
    ap Some (minus-back _ (held_top _ _ was) (search rules)) ∙ sym (ap held_whole e ∙ read_below _ _ was (search rules))

pub returns-in_err-natural-in_default : goal.returns-in_err-natural-in_default
returns-in_err-natural-in_default c =
    let e : whole_of c.args.s.now ≡ non_negative (natural_of c.args.s.now) = search (rules, first_bytes) in
    c.from_residual-in_err-natural-in_default.ensures ∙ sym (ap held_whole e ∙ unread_above _ (sym c.natural-in_default.ensures ∙ c.in_err-natural-in_default.was))

pub overflow_cast-result-in_default : goal.overflow_cast-result-in_default
overflow_cast-result-in_default c = let h = held_top _ _ (sym c.natural-in_default.ensures ∙ c.in_ok-natural-in_default.was) in record { sfits = omega arith }

pub returns-in_ok-natural-in_default : goal.returns-in_ok-natural-in_default
returns-in_ok-natural-in_default c =
    let e : whole_of c.args.s.now ≡ non_negative (natural_of c.args.s.now) = search (rules, first_bytes) in
    let was = sym c.natural-in_default.ensures ∙ c.in_ok-natural-in_default.was in
    ap Some (wide _ (held_top _ _ was)) ∙ sym (ap held_whole e ∙ read_above _ _ was)
