-- Rows that hold alone, and the rows of one line by itself among all of them. Assumes nothing.
use Prim.Native.Nat.{ℕ, ◌<◌}
use mathlib.Core.Path.{◌≡◌, refl, sym, ap, ◌∙◌, subst}
use mathlib.Core.List.{List}
use mathlib.Core.Bool.{Bool, true, false, cond}
use native.Mathlib.Omega.{arith}
use Rattle.sheet_forms.specs.Faults.{rank_of, FirstBy, no_row, first_row}
use Rattle.sheet_forms.specs.Records.{record_of, fault_of}
use Rattle.sheet_forms.specs.Rows.{Row as LineRow, unread as unread', bad_name as bad_name', bad_value as bad_value', bad_count as bad_count', bad_area as bad_area', number_of as line_number, Holds as LineHolds, UnreadLine, BadName, BadValue, BadCount, BadArea}
use Rattle.sheet_forms.proofs.Theorem.{record_first}
use Rattle.sheet_rules.specs.Rows.{Row, unread, bad_name, bad_value, bad_count, bad_area, twice, late, crowded, overlap, unequal, broken, number_of, First}

pub some_number : (r : Row) → number_of r ≡ 0 → ⊥
some_number unread z = omega arith
some_number bad_name z = omega arith
some_number bad_value z = omega arith
some_number bad_count z = omega arith
some_number bad_area z = omega arith
some_number twice z = omega arith
some_number late z = omega arith
some_number crowded z = omega arith
some_number overlap z = omega arith
some_number unequal z = omega arith
some_number broken z = omega arith

-- ---- one row

abbrev pub Only : Row → Type 0 → Row → Type 0
Only q P r = (r ≡ q) × P

module _ (q : Row) {P : Type 0} {n : ℕ} where
  pub only_no : n ≡ 0 → (P → ⊥) → First (Only q P) n
  only_no e h = no_row e (λ r (z, p). h p)

  pub only_yes : n ≡ number_of q → P → First (Only q P) n
  only_yes e p = first_row q e (refl, p) (λ r m (z, p). lower r m z)
    where
      lower : (r : Row) → rank_of (number_of r) < rank_of (number_of q) → r ≡ q → ⊥
      lower r m z = omega (arith, m, ap (λ (x : Row). rank_of (number_of x)) z)

-- a fault where a test says so
pub only_if : (q : Row) {P : Type 0} (t : Bool) → (t ≡ true → P) → (t ≡ false → P → ⊥) → First (Only q P) (cond t (number_of q) 0)
only_if q true y n = only_yes q refl (y refl)
only_if q false y n = only_no q refl (n refl)

-- ---- the rows of one line by itself

abbrev pub OwnRows : List (List ℕ) → Row → Type 0
OwnRows fs unread = UnreadLine fs
OwnRows fs bad_name = BadName fs
OwnRows fs bad_value = BadValue fs
OwnRows fs bad_count = BadCount fs
OwnRows fs bad_area = BadArea fs
OwnRows fs twice = ⊥
OwnRows fs late = ⊥
OwnRows fs crowded = ⊥
OwnRows fs overlap = ⊥
OwnRows fs unequal = ⊥
OwnRows fs broken = ⊥

abbrev pub row_of : LineRow → Row
row_of unread' = unread
row_of bad_name' = bad_name
row_of bad_value' = bad_value
row_of bad_count' = bad_count
row_of bad_area' = bad_area

pub number_same : (r : LineRow) → line_number r ≡ number_of (row_of r)
number_same unread' = refl
number_same bad_name' = refl
number_same bad_value' = refl
number_same bad_count' = refl
number_same bad_area' = refl

own-holds : (fs : List (List ℕ)) (r : LineRow) → LineHolds fs r → OwnRows fs (row_of r)
own-holds fs unread' h = h
own-holds fs bad_name' h = h
own-holds fs bad_value' h = h
own-holds fs bad_count' h = h
own-holds fs bad_area' h = h

-- what holds for no row of a line by itself
no_own : (fs : List (List ℕ)) (W : ℕ → Type 0) → ((r : LineRow) → W (line_number r) → LineHolds fs r → ⊥) → (q : Row) → W (number_of q) → OwnRows fs q → ⊥
no_own fs W h unread w x = h unread' w x
no_own fs W h bad_name w x = h bad_name' w x
no_own fs W h bad_value w x = h bad_value' w x
no_own fs W h bad_count w x = h bad_count' w x
no_own fs W h bad_area w x = h bad_area' w x
no_own fs W h twice w x = x
no_own fs W h late w x = x
no_own fs W h crowded w x = x
no_own fs W h overlap w x = x
no_own fs W h unequal w x = x
no_own fs W h broken w x = x

own_lift : (fs : List (List ℕ)) {n : ℕ} → FirstBy line_number (LineHolds fs) n → First (OwnRows fs) n
own_lift fs (no_row e h) = no_row e (λ q. no_own fs (λ (i : ℕ). Unit {0}) (λ r u. h r) q tt)
own_lift fs (first_row r e h l) =
    first_row (row_of r) (e ∙ number_same r) (own-holds fs r h)
    (λ q m. no_own fs (λ (i : ℕ). rank_of i < rank_of (number_of (row_of r))) (λ p w. l p (subst (λ (i : ℕ). rank_of (line_number p) < rank_of i) (sym (number_same r)) w)) q m)

pub own_first : (fs : List (List ℕ)) → First (OwnRows fs) (fault_of (record_of fs))
own_first fs = own_lift fs (record_first fs)
