-- The answer with the lists, case by case. Assumes nothing.
use mathlib.Core.Path.{◌≡◌, refl, ap}
use mathlib.Core.Bool.{Bool, true, false, cond}
use mathlib.Core.List.{List}
use Prim.Native.Nat.{ℕ, ◌≤◌}
use native.Mathlib.Omega.{arith}
use borrow.Author.Tests.{ltb-false, le-ltb, eq-eqb, ne_eqb}
use lib.Dec.{ltb}
use lib.ListN.{length}
use Rattle.coordinates.specs.declared.refusal.Fault.{Fault}
use Rattle.coordinates.proofs.Faults.{fault_some}
use Rattle.std.specs.Prelude.{Result, Ok, Err}
use Rattle.coordinates.specs.Refusals.{number_of, count, crowded, short}
use Rattle.name_lists.specs.Lists.{ListedNames, answered_lists, lists, line_names_refusal, NamesListed, line_names_listed, Written}

-- what is not refused is within its ranges
pub unrefused : (explicit entries bytes : ℕ) → line_names_refusal explicit entries bytes ≡ 0 → (explicit ≤ 10000) × ((entries ≤ 4096) × (32768 ≤ bytes))
unfolding line_names_refusal
unrefused explicit entries bytes = go (ltb 10000 explicit) (ltb 4096 entries) (ltb bytes 32768) refl refl refl
  where
    go : (a b c : Bool) → ltb 10000 explicit ≡ a → ltb 4096 entries ≡ b → ltb bytes 32768 ≡ c → cond a count (cond b crowded (cond c short 0)) ≡ 0
        → (explicit ≤ 10000) × ((entries ≤ 4096) × (32768 ≤ bytes))
    go true b c e f g z = absurd (omega (arith, z))
    go false true c e f g z = absurd (omega (arith, z))
    go false false true e f g z = absurd (omega (arith, z))
    go false false false e f g z = (ltb-false 10000 explicit e, (ltb-false 4096 entries f, ltb-false bytes 32768 g))

-- and the other way round
pub in_range : (explicit entries bytes : ℕ) → explicit ≤ 10000 → entries ≤ 4096 → 32768 ≤ bytes → line_names_refusal explicit entries bytes ≡ 0
unfolding line_names_refusal
in_range explicit entries bytes a b c = rw (le-ltb 10000 explicit a, le-ltb 4096 entries b, le-ltb bytes 32768 c)

module _ (explicit : ℕ) (words store lent after : List ℕ) where
  abbrev number : ℕ
  number = line_names_refusal explicit (length words) (length store)

  -- a refusal is its number, and nothing is written
  pub listed-refused : (fault : Fault) → number_of fault ≡ number
      → ◌≡◌ {A = NamesListed} (record { answer = answered_lists (Err fault); words = lent }) (line_names_listed explicit words store lent)
  unfolding line_names_listed
  listed-refused fault e = rw (← e, ne_eqb (number_of fault) 0 (fault_some fault))

  -- what is written is the lists
  pub listed-written : (n : ℕ) → number ≡ 0 → Written lent (lists explicit words store) after n
      → ◌≡◌ {A = NamesListed} (record { answer = answered_lists (Ok n); words = after }) (line_names_listed explicit words store lent)
  unfolding line_names_listed
  listed-written n z w =
      let k : n ≡ length (lists explicit words store) = omega (arith, w.counted) in
      rw (eq-eqb number 0 z, k, w.words)

  -- so a caller within the ranges has the lists
  pub listed-in-range : (r : ListedNames) → explicit ≤ 10000 → length words ≤ 4096 → 32768 ≤ length store
      → ◌≡◌ {A = NamesListed} (record { answer = r; words = after }) (line_names_listed explicit words store lent) → Written lent (lists explicit words store) after r.count
  unfolding line_names_listed
  listed-in-range r a b c e =
      let z = in_range explicit (length words) (length store) a b c in
      let g = rw (eq-eqb number 0 z) at e in
      let k : r.count ≡ length (lists explicit words store) = ap (λ (x : NamesListed). x.answer.count) g in
      record { words = ap (λ (x : NamesListed). x.words) g; counted = omega arith }

  -- and is answered with how many names there are
  pub listed-answered : (r : Result ℕ Fault) → explicit ≤ 10000 → length words ≤ 4096 → 32768 ≤ length store
      → ◌≡◌ {A = NamesListed} (record { answer = answered_lists r; words = after }) (line_names_listed explicit words store lent)
      → (n : ℕ) × (r ≡ Ok n) × Written lent (lists explicit words store) after n
  unfolding line_names_listed
  listed-answered (Ok n) a b c e = (n, refl, listed-in-range (answered_lists (Ok n)) a b c e)
  listed-answered (Err fault) a b c e =
      let z = in_range explicit (length words) (length store) a b c in
      let g = rw (eq-eqb number 0 z) at e in
      let k : number_of fault ≡ 0 = ap (λ (x : NamesListed). x.answer.refusal.number) g in
      absurd (fault_some fault k)
