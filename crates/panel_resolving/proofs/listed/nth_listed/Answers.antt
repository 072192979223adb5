use native.Mathlib.Omega.{arith}
use Rattle.panel_resolving.proofs.Listing.{count-within, line_first, ahead-at, ahead-left, behind-at, behind-left}
use Rattle.panel_resolving.proofs.listed.nth_listed.Goals as goal

pub overflow_sub-rest : goal.overflow_sub-rest
overflow_sub-rest c = count-within c.args.words.now c.requires c.args.nth.from c.lines_up_to-below.result c.lines_up_to-below.ensures

pub returns-then-passed-rest : goal.returns-then-passed-rest
returns-then-passed-rest c = rw c.in-Up.is (ahead-at c.args.words.now c.requires c.args.nth.from c.args.nth.over c.lines_up_to-below.result c.lines_up_to-below.ensures c.from-entry.result c.from-entry.ensures c.if-passed-rest.true)

pub offset_bounds-words-below-then-passed-below : goal.offset_bounds-words-below-then-passed-below
offset_bounds-words-below-then-passed-below c = record { fits = omega (arith, count-within c.args.words.now c.requires c.args.nth.from c.lines_up_to-below.result c.lines_up_to-below.ensures, c.well_formed) }

pub bounds-words-below-then-passed-below : goal.bounds-words-below-then-passed-below
bounds-words-below-then-passed-below c = omega (arith, c.if-passed-below.true, count-within c.args.words.now c.requires c.args.nth.from c.lines_up_to-below.result c.lines_up_to-below.ensures)

pub overflow_sub-result-then-passed-below : goal.overflow_sub-result-then-passed-below
overflow_sub-result-then-passed-below c = line_first c.args.words.now c.requires c.from-entry-then-passed-below.result _ c.from-entry-then-passed-below.ensures (omega (arith, c.if-passed-below.true, count-within c.args.words.now c.requires c.args.nth.from c.lines_up_to-below.result c.lines_up_to-below.ensures))

pub returns-then-passed-below : goal.returns-then-passed-below
returns-then-passed-below c = rw c.in-Down.is (behind-at c.args.words.now c.requires c.args.nth.from c.args.nth.over c.lines_up_to-below.result c.lines_up_to-below.ensures c.from-entry-then-passed-below.result c.from-entry-then-passed-below.ensures c.if-passed-below.true)

pub returns-else-passed-rest : goal.returns-else-passed-rest
returns-else-passed-rest c = rw c.in-Up.is (ahead-left c.args.words.now c.requires c.args.nth.from c.args.nth.over c.lines_up_to-below.result c.lines_up_to-below.ensures c.if-passed-rest.false)

pub returns-else-passed-below : goal.returns-else-passed-below
returns-else-passed-below c = rw c.in-Down.is (behind-left c.args.words.now c.requires c.args.nth.from c.args.nth.over c.lines_up_to-below.result c.lines_up_to-below.ensures c.if-passed-below.false)
