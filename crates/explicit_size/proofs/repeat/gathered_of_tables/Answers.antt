use Prim.Native.Nat.{ℕ, ◌<◌, ◌^◌}
use native.Mathlib.Omega.{arith}
use lib.ListN.{get_or}
use Rattle.explicit_size.proofs.Counted.{whole-gathered}
use Rattle.explicit_size.proofs.repeat.gathered_of_tables.Goals as goal

pub returns : goal.returns
returns c =
    let a = c.args in
    let known : (i : ℕ) → get_or a.components.now i 0 < 2 ^ 64 = λ i. omega (arith, c.type_inv.components i) in
    whole-gathered a.components.now a.sizes.minimums.now a.sizes.maximums.now _ _ known c.template_summary.ensures
