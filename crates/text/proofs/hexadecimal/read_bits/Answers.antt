-- `text::read_bits` meets its contract: the whole is what the bytes from the next on write after the bits so far. Assumes nothing.
use Rattle.std.proofs.Common.{rules, sym, ◌∙◌, arith, lit<, get_or}
use borrow.Author.Tests.{ne_eqb}
use Rattle.text.specs.Hexadecimal.{bits_of}
use Rattle.text.proofs.Hex.{digit_none, digit_some, hex-bad, hex-next, hex-end, hex_room, hex_whole}
use Rattle.text.proofs.hexadecimal.read_bits.Goals as goal

pub returns-then-s-ne8 : goal.returns-then-s-ne8
unfolding bits_of
returns-then-s-ne8 c = simp (ne_eqb _ _ c.if-s-ne8.true)

pub loop-b-init : goal.loop-b-init
loop-b-init c = (c.if-s-ne8.false, search rules, hex_whole _ c.if-s-ne8.false)

pub overflow_mul-bits : goal.overflow_mul-bits
overflow_mul-bits c =
    let l = c.loop-b in
    omega (arith, hex_room l.b-index l.bits 0 (omega arith) l.invariant.1 (lit< tt))

pub returns-in_err-bits : goal.returns-in_err-bits
returns-in_err-bits c =
    let l = c.loop-b in
    c.from_residual.ensures ∙ sym (l.invariant.2 ∙ hex-bad _ l.b-index l.bits c.loop-b-test.true (digit_none (get_or c.args.s.now l.b-index 0) (sym c.digit.ensures ∙ c.in_err-bits.was)))

pub loop-b-preserved : goal.loop-b-preserved
loop-b-preserved c =
    let l = c.loop-b in
    let d = digit_some (get_or c.args.s.now l.b-index 0) c.in_ok-bits.field-0 (sym c.digit.ensures ∙ c.in_ok-bits.was) in (
      l.invariant.0,
      (hex_room l.b-index l.bits c.in_ok-bits.field-0 (omega arith) l.invariant.1 (omega (arith, d.0, d.1))).0,
      l.invariant.2 ∙ rw d.0 (hex-next _ l.b-index l.bits c.loop-b-test.true d.1),
    )

pub returns : goal.returns
returns c =
    let l = c.loop-b in
    sym (l.invariant.2 ∙ hex-end _ l.b-index l.bits (omega arith))
