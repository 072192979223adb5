use native.Mathlib.Omega.{arith}
use mathlib.Core.Path.{◌≡◌, sym, ◌∙◌}
use Prim.Native.Nat.{◌+◌, ◌-◌}
use mathlib.Core.List.{map}
use Rattle.name_template.specs.Writing.{entries_on, entry_word}
use borrow.Author.Tests.{eqb-true}
use lib.ListN.{length}
use lib.Seq.{length-sets}
use Rattle.name_template.proofs.Placing.{one_less, sets_part, copies-next, copies-end, none_left}
use Rattle.name_template.proofs.Walking.{no_copies}
use Rattle.name_template.proofs.write_out.write_copies.Goals as goal

pub returns-then-is_empty : goal.returns-then-is_empty
returns-then-is_empty c = let a = c.args in
    let e : length a.names.now ≡ 0 = eqb-true (length a.names.now) 0 (sym c.is_empty.ensures ∙ c.if-is_empty.true) in (
      rw e (omega arith),
      rw (no_copies a.times a.line a.tracks a.names.now e),
    )

pub loop-done-preserved : goal.loop-done-preserved
loop-done-preserved c = let l = c.loop-done in let a = c.args in
    let left : a.times - (l.done + 1) ≡ a.times - l.done - 1 = omega arith in
    let m = one_less (a.times - l.done) (length a.names.now) (λ z. omega arith) in
    let t = one_less (a.times - l.done) a.tracks (λ z. omega arith) in
    let e = sets_part l.entries (map entry_word (entries_on l.on a.names.now)) l.count (omega arith) in (
      rw (c.write_once.ensures, e) (simp length-sets l.invariant.0),
      rw left (omega arith),
      rw left (omega arith),
      rw (left, c.write_once.ensures, e) (l.invariant.3 ∙ copies-next (a.times - l.done) l.on a.tracks a.names.now l.entries l.count (λ z. omega arith)),
    )

pub returns : goal.returns
returns c = let l = c.loop-done in let a = c.args in (
  none_left (a.times - l.done) (length a.names.now) l.count _ (omega arith) l.invariant.1,
  sym (l.invariant.3 ∙ copies-end l.on a.tracks a.names.now l.entries l.count (a.times - l.done) (omega arith)),
)
