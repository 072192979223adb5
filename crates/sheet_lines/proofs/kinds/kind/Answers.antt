use Rattle.std.proofs.Common.{rules, [], get_or, arith}
use Rattle.text.specs.Split.{same}
use Rattle.text.proofs.Which.{same_length}
use Rattle.sheet_forms.specs.Words.{kind_words}
use Rattle.sheet_lines.proofs.NoKind.{Unlike, four, five, more}
use Rattle.sheet_lines.proofs.kinds.kind.Goals as goal

pub returns-in_default-21 : goal.returns-in_default-21
unfolding same
returns-in_default-21 c =
    let f = c.args.f.now in
    let axis : Unlike f 0 = search rules in
    let area : Unlike f 1 = search rules in
    let name : Unlike f 2 = search rules in
    let item : Unlike f 8 = search rules in
    let cell : Unlike f 11 = search rules in
    four f (omega arith) axis area name item cell

pub returns-in_default-38 : goal.returns-in_default-38
unfolding same
returns-in_default-38 c =
    let f = c.args.f.now in
    let track : Unlike f 3 = search rules in
    let spare : Unlike f 6 = search rules in
    let extra : Unlike f 7 = search rules in
    let place : Unlike f 9 = search rules in
    five f (omega arith) track spare extra place

pub returns-in_default-44 : goal.returns-in_default-44
unfolding same
returns-in_default-44 c =
    let f = c.args.f.now in
    let repeat : Unlike f 4 = search rules in
    more f (omega arith) repeat

pub returns-in_default-45 : goal.returns-in_default-45
returns-in_default-45 c =
    let f = c.args.f.now in
    more f (omega arith) (same_length (get_or kind_words 4 []) f (λ e. omega (arith, e)))
