-- What an entry that nothing refuses tells.
use mathlib.Core.Path.{◌≡◌, refl}
use mathlib.Core.Bool.{Bool, true, false, cond, not, ◌&&◌, ◌||◌}
use Prim.Native.Nat.{ℕ, suc, ◌+◌, ◌≤◌, ◌<◌}
use native.Mathlib.Omega.{arith}
use borrow.Author.Tests.{leb-true, leb-false, ltb-false}
use lib.Dec.{leb, ltb}
use lib.ListN.{length}
use Rattle.name_rules.specs.Css.{Bytes}
use Rattle.name_entries.specs.Names.{is_name}
use Rattle.name_entries.specs.Enter.{entry_refusal}
use Rattle.std.proofs.lemmas.Bool.{and_parts, or_parts}
use Rattle.name_entries.proofs.Graphic.{name-length}

pub record Accepted (bytes count used line : ℕ) (name : Bytes) : Type 0 where
  pub named : is_name name ≡ true
  pub short : length name ≤ 32
  pub from : 1 ≤ line
  pub to : line ≤ 20000
  pub few : count < 4096
  pub fits : used + length name ≤ 32768
  pub wide : 32768 ≤ bytes

zero-suc : {A : Type 0} (n : ℕ) → ◌≡◌ {A = ℕ} (suc n) 0 → A
zero-suc n e = absurd (omega arith)

through : (a b c d : Bool) → ◌≡◌ {A = ℕ} (cond (not a) 2 (cond (not b) 4 (cond c 8 (cond d 10 0)))) 0 → (a ≡ true) × (b ≡ true) × (c ≡ false) × (d ≡ false)
through true true false false e = (refl, refl, refl, refl)
through true true false true e = zero-suc 9 e
through true true true d e = zero-suc 7 e
through true false c d e = zero-suc 3 e
through false b c d e = zero-suc 1 e

pub accepted : (bytes count used line : ℕ) (name : Bytes) → entry_refusal bytes count used line name ≡ 0
    → Accepted bytes count used line name
unfolding entry_refusal
accepted bytes count used line name e =
    let t = through (is_name name) (leb 1 line && leb line 20000) (leb 4096 count || ltb 32768 (used + length name)) (ltb bytes 32768) e in
    let l = and_parts (leb 1 line) (leb line 20000) t.1 in
    let k = or_parts (leb 4096 count) (ltb 32768 (used + length name)) t.2 in
    record {
      named = t.0;
      short = name-length name t.0;
      from = leb-true 1 line l.0;
      to = leb-true line 20000 l.1;
      few = leb-false 4096 count k.0;
      fits = ltb-false 32768 (used + length name) k.1;
      wide = ltb-false bytes 32768 t.3;
    }
