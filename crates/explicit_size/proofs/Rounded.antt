-- Division rounded up, as layer 3 writes it. Assumes nothing.
use Prim.Native.Nat.{ℕ, ◌+◌, ◌*◌, ◌-◌, ◌/◌, ◌%◌, ◌<◌, min}
use native.Mathlib.Omega.{arith}
use native.Mathlib.Nat.{div-eq_of_lt-le}
use mathlib.Core.Path.{◌≡◌, sym}
use Rattle.std.proofs.lemmas.Grind.{div_ceil_times}
use Rattle.template_rules.specs.Repetitions.{room}

pub rounded : (p k : ℕ) → p < 10000 → 0 < k → (10000 - p) / k + min 1 ((10000 - p) % k) ≡ room p k
rounded p k small some =
    let c : ℕ = (10000 - p) / k + min 1 ((10000 - p) % k) in
    let t = div_ceil_times (10000 - p) k some in
    let e : (c + 1) * k ≡ c * k + k = grind arith in
    sym (div-eq_of_lt-le k (omega (arith, t.1, some)) (omega (arith, t.0, some, e)))
