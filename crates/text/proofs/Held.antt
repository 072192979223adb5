-- Digits from a place on, held at 2^32, and the ranges in which the hold does not show. Assumes nothing.
use Prim.Native.Nat.{ℕ, zero, suc, ◌+◌, ◌-◌, ◌*◌, ◌≤◌, ◌<◌, min}
use mathlib.Core.Path.{◌≡◌, refl, sym, ap, ◌∙◌}
use mathlib.Core.List.{List, [], ◌∷◌}
use mathlib.Core.Bool.{Bool, true, false, cond}
use mathlib.Core.Logic.{⊎_elim, ◌⊎◌, inl, inr}
use native.Mathlib.Numerals.{add-one}
use native.Mathlib.Omega.{arith}
use lib.Dec.{leb, ltb}
use lib.IntN.{ℤ, pos, negsuc}
use lib.ListN.{length, get_or, take, drop, drop_of_length-le}
use lib.Seq.{drop-cons, take_all}
use mir.Syntax.{w16, w64}
use mir.Val.{SFits}
use borrow.Author.Tests.{leb-true, leb-false, ltb-false, eq-eqb, ne_eqb, lt-ltb, le-ltb}
use Rattle.std.specs.Prelude.{Some, None, Result, Ok, Err}
use Rattle.std.specs.Char.{IsNotAsciiDigit}
use Rattle.text.specs.declared.NumberFault.{NumberFault}
use Rattle.text.specs.declared.NumberFault.TheVariants.{Outside}
use Rattle.text.specs.Whole.{Natural, bad, number, Written, none, whole, digits_of, natural_of, non_negative, negative, whole_of, count_in, index_in}
use Rattle.text.specs.Steps.{top, held, held_whole, within}

-- held, the number that digits write after v is the one that they write after any w that is held at the same
held_go : (t u : Bool) (x y : Natural) → held x ≡ held y → held (cond t bad (cond u bad x)) ≡ held (cond t bad (cond u bad y))
held_go true u x y e = refl
held_go false true x y e = refl
held_go false false x y e = e

held_same : (l : List ℕ) (v w : ℕ) → min top v ≡ min top w → held (digits_of v l) ≡ held (digits_of w l)
unfolding held digits_of
held_same [] v w e = ap Some e
held_same (b ∷ bs) v w e =
    held_go (ltb b 48) (ltb 57 b) (digits_of (v * 10 + (b - 48)) bs) (digits_of (w * 10 + (b - 48)) bs)
    (held_same bs (v * 10 + (b - 48)) (w * 10 + (b - 48)) (omega arith))

pub le_or_lt : (a b : ℕ) → (a ≤ b) ⊎ (b < a)
le_or_lt a b = go (leb a b) refl
  where
    go : (t : Bool) → leb a b ≡ t → (a ≤ b) ⊎ (b < a)
    go true e = inl (leb-true a b e)
    go false e = inr (leb-false a b e)

-- digits from a place on
module _ (s : List ℕ) (i v : ℕ) where
  pub digits_low : i < length s → get_or s i 0 < 48 → held (digits_of v (drop i s)) ≡ None
  unfolding held digits_of
  digits_low h k = rw (drop-cons s i 0 h, lt-ltb (get_or s i 0) 48 k)

  pub digits-high : i < length s → 48 ≤ get_or s i 0 → 57 < get_or s i 0 → held (digits_of v (drop i s)) ≡ None
  unfolding held digits_of
  digits-high h k m = rw (drop-cons s i 0 h, le-ltb (get_or s i 0) 48 k, lt-ltb 57 (get_or s i 0) m)

  pub digits-next : i < length s → 48 ≤ get_or s i 0 → get_or s i 0 ≤ 57
      → held (digits_of v (drop i s)) ≡ held (digits_of (min top (v * 10 + (get_or s i 0 - 48))) (drop (i + 1) s))
  digits-next h k m = step ∙ held_same (drop (i + 1) s) _ _ (omega arith)
    where
      step : held (digits_of v (drop i s)) ≡ held (digits_of (v * 10 + (get_or s i 0 - 48)) (drop (i + 1) s))
      step = unfold digits_of in rw (drop-cons s i 0 h, le-ltb (get_or s i 0) 48 k, le-ltb 57 (get_or s i 0) m, add-one)

  pub no_digit : i < length s → IsNotAsciiDigit (get_or s i 0) → held (digits_of v (drop i s)) ≡ None
  no_digit h (inl k) = digits_low h k
  no_digit h (inr k) = ⊎_elim (λ m. digits-high h m k) (λ m. digits_low h m) (le_or_lt 48 (get_or s i 0))

  pub digits-end : length s ≤ i → v ≤ top → held (digits_of v (drop i s)) ≡ Some v
  unfolding held digits_of
  digits-end h k = rw (drop_of_length-le s h) (ap Some (omega arith))

-- a number with no sign, by its length and its first digit
pub natural_none : (s : List ℕ) → length s < 1 → held (natural_of s) ≡ None
unfolding held natural_of
natural_none [] e = refl
natural_none (b ∷ bs) e = absurd (omega arith)

pub natural_zero : (s : List ℕ) → 2 ≤ length s → get_or s 0 0 ≡ 48 → held (natural_of s) ≡ None
unfolding held natural_of
natural_zero [] h e = absurd (omega arith)
natural_zero (b ∷ []) h e = absurd (omega arith)
natural_zero (b ∷ c ∷ bs) h e = rw (eq-eqb b 48 e) refl

pub natural_one : (s : List ℕ) → 1 ≤ length s → length s < 2 → held (natural_of s) ≡ held (digits_of 0 s)
unfolding natural_of
natural_one [] g h = absurd (omega arith)
natural_one (b ∷ []) g h = refl
natural_one (b ∷ c ∷ bs) g h = absurd (omega arith)

pub natural_more : (s : List ℕ) → 1 ≤ length s → (get_or s 0 0 ≡ 48 → ⊥) → held (natural_of s) ≡ held (digits_of 0 s)
unfolding natural_of
natural_more [] h e = absurd (omega arith)
natural_more (b ∷ []) h e = refl
natural_more (b ∷ c ∷ bs) h e = rw (ne_eqb b 48 e) refl

pub ruleset naturals = (natural_none, natural_zero, natural_one, natural_more)

-- a whole number, by its first byte
pub whole_below : (s : List ℕ) → 1 ≤ length s → get_or s 0 0 ≡ 45 → whole_of s ≡ negative (natural_of (take (length s - 1) (drop 1 s)))
unfolding whole_of
whole_below [] h f = absurd (omega arith)
whole_below (b ∷ bs) h f = rw (eq-eqb b 45 f, take_all (length (b ∷ bs) - 1) bs (omega arith))

pub whole_empty : (s : List ℕ) → length s < 1 → whole_of s ≡ non_negative (natural_of s)
unfolding whole_of natural_of non_negative
whole_empty [] h = refl
whole_empty (b ∷ bs) h = absurd (omega arith)

pub whole_above : (s : List ℕ) → 1 ≤ length s → (get_or s 0 0 ≡ 45 → ⊥) → whole_of s ≡ non_negative (natural_of s)
unfolding whole_of
whole_above [] h f = absurd (omega arith)
whole_above (b ∷ bs) h f = rw (ne_eqb b 45 f)

pub ruleset first_bytes = (whole_below, whole_empty, whole_above)

-- a hold does not show in a range below it
index_above : (n : ℕ) → within (negsuc 32767) (pos 32767) (Some (pos (min top n))) ≡ index_in (whole (pos n))
unfolding index_in
index_above n =
    ⊎_elim
    (λ k. let e : min top n ≡ n = omega arith in rw e)
    (λ k. rw (lt-ltb 32767 (min top n) (omega arith), lt-ltb 32767 n (omega arith)))
    (le_or_lt n top)

index_below : (n : ℕ) → within (negsuc 32767) (pos 32767) (Some (negsuc (min top (suc n) - 1))) ≡ index_in (whole (negsuc n))
unfolding index_in
index_below n =
    ⊎_elim
    (λ k. let e : min top (suc n) - 1 ≡ n = omega arith in rw e)
    (λ k. rw (lt-ltb 32767 (min top (suc n) - 1) (omega arith), lt-ltb 32767 n (omega arith)))
    (le_or_lt (suc n) top)

pub index-held : (w : Written) → within (negsuc 32767) (pos 32767) (held_whole w) ≡ index_in w
unfolding held_whole index_in
index-held none = refl
index-held (whole (pos n)) = index_above n
index-held (whole (negsuc n)) = index_below n

-- a number of a range of counts, as an integer
abbrev pub as_integer : Result ℕ NumberFault → Result ℤ NumberFault
as_integer (Ok n) = Ok (pos n)
as_integer (Err fault) = Err fault

chosen : (x t : Bool) (v : ℕ) → cond x (Err Outside) (cond t (Err Outside) (Ok (pos v))) ≡ as_integer (cond x (Err Outside) (cond t (Err Outside) (Ok v)))
chosen true t v = refl
chosen false true v = refl
chosen false false v = refl

out_both : (x y : Bool) (z : ℤ) (v : ℕ) → cond x (Err Outside) (cond true (Err Outside) (Ok z)) ≡ as_integer (cond y (Err Outside) (cond true (Err Outside) (Ok v)))
out_both true true z v = refl
out_both true false z v = refl
out_both false true z v = refl
out_both false false z v = refl

pub count_held : (least most : ℕ) (w : Written) → most < top → within (pos least) (pos most) (held_whole w) ≡ as_integer (count_in least most w)
unfolding held_whole count_in
count_held least most none h = refl
count_held least most (whole (negsuc k)) h = refl
count_held least most (whole (pos n)) h =
    ⊎_elim
    (λ k. let e : min top n ≡ n = omega arith in rw e (chosen (ltb n least) (ltb most n) n))
    (λ k. rw (lt-ltb most (min top n) (omega arith), lt-ltb most n (omega arith)) (out_both (ltb (min top n) least) (ltb n least) (pos (min top n)) n))
    (le_or_lt n top)

-- what is read of a number's sign and its digits
none_some : {n : ℕ} → None ≡ Some n → ⊥
none_some e = let z : ◌≡◌ {A = ℕ} 0 1 = cc in omega arith

pub unread_above : (x : Natural) → held x ≡ None → held_whole (non_negative x) ≡ None
unfolding held held_whole non_negative
unread_above bad e = refl
unread_above (number n) e = absurd (none_some (sym e))

pub unread_below : (x : Natural) → held x ≡ None → held_whole (negative x) ≡ None
unfolding held held_whole negative
unread_below bad e = refl
unread_below (number n) e = absurd (none_some (sym e))

pub held_top : (x : Natural) (n : ℕ) → held x ≡ Some n → n ≤ top
unfolding held
held_top bad n e = absurd (none_some e)
held_top (number m) n e = let f : min top m ≡ n = cc in omega arith

pub read_above : (x : Natural) (n : ℕ) → held x ≡ Some n → held_whole (non_negative x) ≡ Some (pos n)
unfolding held held_whole non_negative
read_above bad n e = absurd (none_some e)
read_above (number m) n e = let f : min top m ≡ n = cc in rw f refl

pub read_zero : (x : Natural) → held x ≡ Some 0 → held_whole (negative x) ≡ None
unfolding held held_whole negative
read_zero bad e = refl
read_zero (number zero) e = refl
read_zero (number (suc m)) e = let f : min top (suc m) ≡ 0 = cc in absurd (omega arith)

pub read_below : (x : Natural) (n : ℕ) → held x ≡ Some n → (n ≡ 0 → ⊥) → held_whole (negative x) ≡ Some (negsuc (n - 1))
unfolding held held_whole negative
read_below bad n e h = absurd (none_some e)
read_below (number zero) n e h = let f : min top 0 ≡ n = cc in absurd (h (omega arith))
read_below (number (suc m)) n e h = let f : min top (suc m) ≡ n = cc in rw f refl

-- a count that is in its range
ok_err : {T E : Type 0} {x : T} {e : E} → ◌≡◌ {A = Result T E} (Err e) (Ok x) → ⊥
ok_err e = let z : ◌≡◌ {A = ℕ} 0 1 = cc in omega arith

pub counted : (least most : ℕ) (w : Written) (z : ℤ) → as_integer (count_in least most w) ≡ Ok z → (n : ℕ) × (count_in least most w ≡ Ok n) × (z ≡ pos n)
counted least most w z = go (count_in least most w) refl
  where
    go : (r : Result ℕ NumberFault) → count_in least most w ≡ r → as_integer r ≡ Ok z → (n : ℕ) × (count_in least most w ≡ Ok n) × (z ≡ pos n)
    go (Ok n) q e = (n, q, cc)
    go (Err f) q e = absurd (ok_err e)

pub refused : (least most : ℕ) (w : Written) (f : NumberFault) → as_integer (count_in least most w) ≡ Err f → count_in least most w ≡ Err f
refused least most w f = go (count_in least most w) refl
  where
    go : (r : Result ℕ NumberFault) → count_in least most w ≡ r → as_integer r ≡ Err f → count_in least most w ≡ Err f
    go (Ok n) q e = absurd (ok_err (sym e))
    go (Err g) q e = q ∙ (let d : g ≡ f = cc in ap Err d)

pub count_most : (least most : ℕ) (w : Written) (n : ℕ) → count_in least most w ≡ Ok n → n ≤ most
unfolding count_in
count_most least most none n e = absurd (ok_err e)
count_most least most (whole (negsuc k)) n e = absurd (ok_err e)
count_most least most (whole (pos m)) n e = go (ltb m least) (ltb most m) refl e
  where
    go : (t u : Bool) → ltb most m ≡ u → cond t (Err Outside) (cond u (Err Outside) (Ok m)) ≡ Ok n → n ≤ most
    go true u q d = absurd (ok_err d)
    go false true q d = absurd (ok_err d)
    go false false q d = let f : m ≡ n = cc in rw (← f) (ltb-false most m q)

-- a number of 16 bits with its sign
pub indexed : (w : Written) (z : ℤ) → index_in w ≡ Ok z → SFits w16 z × SFits w64 z
unfolding index_in
indexed none z e = absurd (ok_err e)
indexed (whole (pos m)) z e = go (ltb 32767 m) refl e
  where
    go : (u : Bool) → ltb 32767 m ≡ u → cond u (Err Outside) (Ok (pos m)) ≡ Ok z → SFits w16 z × SFits w64 z
    go true q d = absurd (ok_err d)
    go false q d = let f : pos m ≡ z = cc in let h = ltb-false 32767 m q in rw (← f) (record { sfits = omega arith }, record { sfits = omega arith })
indexed (whole (negsuc m)) z e = go (ltb 32767 m) refl e
  where
    go : (u : Bool) → ltb 32767 m ≡ u → cond u (Err Outside) (Ok (negsuc m)) ≡ Ok z → SFits w16 z × SFits w64 z
    go true q d = absurd (ok_err d)
    go false q d = let f : negsuc m ≡ z = cc in let h = ltb-false 32767 m q in rw (← f) (record { sfits = omega arith }, record { sfits = omega arith })
