-- What is taken of a template at a cursor. Assumes nothing.
use Prim.Native.Nat.{ℕ, ◌+◌, ◌≤◌, ◌<◌}
use native.Mathlib.Omega.{arith}
use mathlib.Core.Path.{◌≡◌, sym, ap, subst, ◌∙◌}
use mathlib.Core.Bool.{Bool, true, false, cond}
use mathlib.Core.List.{List}
use lib.Dec.{eqb}
use lib.ListN.{length, get_or, drop, length-drop}
use borrow.Author.Tests.{eq-eqb, ne_eqb}
use Rattle.track_rules.specs.declared.Cursor.{Cursor}
use Rattle.track_rules.proofs.Words.{first_fits}
use Rattle.track_record.specs.declared.Repeated.{Repeated}
use Rattle.track_record.specs.Repeats.{repeated_of}
use Rattle.track_record.proofs.Components.{few-tracks}
use Rattle.library_records.specs.declared.TemplatePart.{TemplatePart}
use Rattle.library_records.specs.Parts.{component_part, singles_of, singles_at, singles_part, part_at}
use Rattle.library_records.proofs.Singles.{singles_fit}

-- places in the tables are below 2^16
place-few : (w : ℕ) → (repeated_of w).first < 65536
unfolding repeated_of
place-few w = first_fits w

pub first_few : (w : ℕ) (x : Repeated) → x ≡ repeated_of w → x.first < 65536
first_few w x e = subst (λ (y : Repeated). y.first < 65536) (sym e) (place-few w)

module _ (r : ℕ) (ws : List ℕ) (u : Cursor) (n m : ℕ) where
  pub component-at : (x : TemplatePart) → m ≡ singles_at ws u n → m ≡ 0 → x ≡ component_part r (get_or ws u.component 0) u n → x ≡ part_at r ws u n
  unfolding part_at
  component-at x e none f = rw (eq-eqb (singles_at ws u n) 0 (sym e ∙ none)) f

  pub singles-at : (x : Repeated) → m ≡ singles_at ws u n → (m ≡ 0 → ⊥) → x ≡ repeated_of (get_or ws u.component 0) → singles_part x.first u m ≡ part_at r ws u n
  unfolding part_at
  singles-at x e some f = rw (← e, ne_eqb m 0 some) (ap (λ (y : Repeated). singles_part y.first u m) f)

pub component-few : (r w : ℕ) (u : Cursor) (n : ℕ) (x : TemplatePart) → w < 18446744073709551616 → x ≡ component_part r w u n → x.repeated.first + x.repeated.length < 18446744073709551616
unfolding component_part
component-few r w u n x h e = subst (λ (y : TemplatePart). y.repeated.first + y.repeated.length < 18446744073709551616) (sym e) (omega (arith, few-tracks w h))

pub singles-held : (ws : List ℕ) (u : Cursor) (n m : ℕ) → m ≡ singles_at ws u n → m ≤ length ws
unfolding singles_at
singles-held ws u n m e = go (eqb u.offset 0) e
  where
    go : (b : Bool) → m ≡ cond b (singles_of (repeated_of (get_or ws u.component 0)).first (drop u.component ws) n) 0 → m ≤ length ws
    go true z = omega (arith, z, (singles_fit (repeated_of (get_or ws u.component 0)).first (drop u.component ws) n).1, length-drop u.component ws)
    go false z = omega (arith, z)

pub singles-few : (ws : List ℕ) (u : Cursor) (n m : ℕ) (x : Repeated) → length ws < 4294967296 → m ≡ singles_at ws u n → x ≡ repeated_of (get_or ws u.component 0) → x.first + m < 18446744073709551616
singles-few ws u n m x h e f = omega (arith, singles-held ws u n m e, first_few (get_or ws u.component 0) x f)
