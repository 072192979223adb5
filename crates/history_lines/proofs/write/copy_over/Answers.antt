use Prim.Native.Nat.{◌+◌, ◌≤◌}
use native.Mathlib.Omega.{arith}
use mathlib.Core.Path.{◌≡◌, sym, ap, ◌∙◌}
use mathlib.Core.List.{List, []}
use lib.ListN.{length, drop, drop_of_length-le}
use lib.Seq.{sets}
use Rattle.history_lines.proofs.Places.{sets_over}
use Rattle.history_lines.proofs.write.copy_over.Goals as goal

pub returns : goal.returns
returns c =
    let a = c.args in
    let l = c.loop-place in
    let none : drop l.place a.text.now ≡ [] = drop_of_length-le a.text.now {i = l.place} (omega (arith, c.loop-place-test.false)) in
    sym (l.invariant.2 ∙ ap (sets l.bytes l.place) none) ∙ sets_over a.bytes.now a.text.now c.requires
