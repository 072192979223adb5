use mathlib.Core.Path.{ap, ◌∙◌}
use Prim.Native.Nat.{◌+◌, ◌-◌}
use native.Mathlib.Omega.{arith}
use Rattle.panel_resolving.specs.Placements.{numbers_of}
use Rattle.panel_resolving.proofs.Numbers.{small-numbers, numbers_put}
use Rattle.panel_resolving.proofs.put.put_placement.Goals as goal

pub numbers_of-written-requires : goal.numbers_of-written-requires
numbers_of-written-requires c = rw c.from.ensures (small-numbers c.args.answer)

pub returns : goal.returns
returns c =
    let a = c.args in
    numbers_put a.numbers.now _ _ a.place (a.place + 8 - a.place) (c.copy_from_slice.ensures.after ∙ c.numbers_of-written.ensures ∙ ap numbers_of c.from.ensures) (omega arith) (omega (arith, c.requires))
