use mathlib.Core.Path.{sym, ◌∙◌}
use native.Mathlib.Omega.{arith}
use Rattle.name_lists.specs.Lists.{line_words}
use Rattle.name_lists.proofs.Writing.{rests-none, words-end, line-shown, line-room, line-passed}
use Rattle.name_lists.proofs.line.write_line.Goals as goal
use Rattle.name_lists.proofs.line.write_line.Goals.{then-is_shown, else-is_shown}

pub bounds-words-count : goal.bounds-words-count
bounds-words-count c = let a = c.args in let l = c.loop-place in
    line-room a.names.entries.now a.names.store.now a.line a.words.now l.words l.count l.place c.loop-place-test.true l.invariant (sym (rw c.from.ensures at c.is_shown.ensures) ∙ c.if-is_shown.true) c.requires

pub loop-place-preserved : goal.loop-place-preserved
loop-place-preserved c = let a = c.args in let l = c.loop-place in let s = rw c.from.ensures at c.is_shown.ensures in
    elim c.if-is_shown.branch [
      | then-is_shown w ↦ rw (w.words-is, w.count-is, w.part_word.ensures) (line-shown a.names.entries.now a.names.store.now a.line a.words.now l.words l.count l.place c.loop-place-test.true l.invariant (sym s ∙ w.if-is_shown.true))
      | else-is_shown w ↦ rw (w.words-is, w.count-is) (line-passed a.names.entries.now a.names.store.now a.line a.words.now l.words l.count l.place c.loop-place-test.true l.invariant (sym s ∙ w.if-is_shown.false))
    ]

pub returns : goal.returns
returns c = let a = c.args in let l = c.loop-place in
    rests-none a.words.now (line_words a.names.entries.now a.names.store.now a.line) l.words l.count _ l.invariant (words-end a.names.entries.now a.names.store.now a.line l.place (omega arith))
