-- Entries that list the lines of one name, entry by entry. Assumes nothing.
use mathlib.Core.Path.{◌≡◌, refl, sym, ap}
use mathlib.Core.Bool.{Bool, true, false, ◌&&◌}
use mathlib.Core.List.{List}
use Prim.Native.Nat.{ℕ, ◌/◌, ◌≤◌, ◌<◌}
use native.Mathlib.Omega.{arith}
use borrow.Author.Tests.{le-leb, lt-leb, lt-ltb, le-ltb}
use Rattle.name_rules.specs.Css.{Bytes}
use Rattle.name_rules.specs.Rule.{eq_bytes}
use Rattle.name_entries.specs.declared.NameEntry.{NameEntry}
use Rattle.name_entries.specs.Entries.{entry_of, name_in}
use Rattle.name_entries.proofs.Same.{same_refl}
use Rattle.name_groups.specs.Listed.{lists_next}

-- entries of the same part of the store have the same name
pub same_part : (store : List ℕ) (a b : ℕ) → a / 65536 ≡ b / 65536 → eq_bytes (name_in store (entry_of a)) (name_in store (entry_of b)) ≡ true
unfolding entry_of
same_part store a b e =
    let l : a / 4294967296 ≡ b / 4294967296 = omega arith in
    rw (e, l) (same_refl (name_in store (entry_of b)))

-- ---- one entry more

-- tests joined with one that fails, or that holds
and_none : (a : Bool) → (a && false) ≡ false
and_none true = refl
and_none false = refl

and-all : (a : Bool) → (a && true) ≡ a
and-all true = refl
and-all false = refl

module _ (store : List ℕ) (nm : Bytes) (n w : ℕ) (e : NameEntry) (known : e ≡ entry_of w) where
  -- its line
  line : e.line ≡ (entry_of w).line
  line = ap (λ (x : NameEntry). x.line) known

  -- its line is not after the one
  pub lists-late : e.line ≤ n → false ≡ lists_next store nm n w
  lists-late h = rw (le-ltb n (entry_of w).line (rw line at h)) (sym (and_none (eq_bytes (name_in store (entry_of w)) nm)))

  -- its line is not looked at
  pub lists-past : n < e.line → 20000 < e.line → false ≡ lists_next store nm n w
  lists-past h g = rw (lt-ltb n (entry_of w).line (rw line at h), lt-leb (entry_of w).line 20000 (rw line at g)) (sym (and_none (eq_bytes (name_in store (entry_of w)) nm)))

  -- it is listed where it has the name
  pub lists-here : n < e.line → e.line ≤ 20000 → eq_bytes (name_in store (entry_of w)) nm ≡ lists_next store nm n w
  lists-here h g = rw (lt-ltb n (entry_of w).line (rw line at h), le-leb (entry_of w).line 20000 (rw line at g)) (sym (and-all (eq_bytes (name_in store (entry_of w)) nm)))
