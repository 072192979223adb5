-- What one walk over the records gathers is what is defined over all of them. Assumes nothing.
use Rattle.std.proofs.lemmas.Bool.{cases_lt}
use Rattle.std.specs.Prelude.{Option}
use Prim.Native.Nat.{ℕ, zero, suc, ◌+◌, ◌*◌, ◌/◌, ◌%◌, ◌≤◌, ◌<◌, min}
use native.Mathlib.Omega.{arith}
use native.Mathlib.Numerals.{add-one}
use mathlib.Core.Path.{◌≡◌, refl, sym, ap, ap₂, ◌∙◌}
use mathlib.Core.Logic.{⊎_elim}
use mathlib.Core.Bool.{Bool, true, false, cond, ◌&&◌}
use mathlib.Core.List.{List, [], ◌∷◌}
use lib.Dec.{eqb}
use lib.ListN.{length, get_or, take}
use lib.Seq.{take-length}
use lib.Ieee.{Float, binary32, add, lt, le}
use borrow.Author.Tests.{eq-eqb, ne_eqb, lt-ltb, le-ltb}
use Rattle.sizing.specs.Words.{zero32}
use Rattle.sizing.specs.Sums.{sum_from}
use Rattle.sizing.specs.Definite.{is_definite, or_zero}
use Rattle.track_rules.specs.declared.GridTrack.{GridTrack}
use Rattle.line_positions.specs.declared.Span.{Span}
use Rattle.line_positions.specs.declared.LineWalk.{LineWalk}
use Rattle.line_positions.specs.Positions.{record_value_in, all_definite, values_of, start_of, tracks_among, position_of, distance_of, nearest_among, count_of}
use Rattle.line_positions.specs.Steps.{nearer_than, one_more, line_met, line_at, record_passed, position_step, walk_begun, lines_met, nearest_met, distance_met, gathered, walked_to}

-- ---- one record more

module _ (inner : Option Float) where
  sum-next : (t : Float) (records : List GridTrack) (i : ℕ) (d : GridTrack) → i < length records
      → sum_from t (take (suc i) (values_of inner records)) ≡ add binary32 (sum_from t (take i (values_of inner records))) (or_zero (record_value_in inner (get_or records i d)))
  unfolding sum_from values_of
  sum-next t [] i d h = absurd (none i h)
    where
      none : (i : ℕ) → i < 0 → ⊥
      none i h = omega arith
  sum-next t (r ∷ rs) zero d h = refl
  sum-next t (r ∷ rs) (suc i) d h = sum-next (add binary32 t (or_zero (record_value_in inner r))) rs i d (less i (length rs) h)
    where
      less : (i n : ℕ) → suc i < suc n → i < n
      less i n h = omega arith

  pub start-next : (records : List GridTrack) (i : ℕ) (d : GridTrack) → i < length records
      → start_of inner records (suc i) ≡ add binary32 (start_of inner records i) (or_zero (record_value_in inner (get_or records i d)))
  unfolding start_of
  start-next records i d h = sum-next zero32 records i d h

  and_assoc : (a b c : Bool) → (a && (b && c)) ≡ ((a && b) && c)
  and_assoc true b c = refl
  and_assoc false b c = refl

  and-true : (a : Bool) → (a && true) ≡ a
  and-true true = refl
  and-true false = refl

  pub definite-next : (records : List GridTrack) (i : ℕ) (d : GridTrack) → i < length records
      → all_definite inner (take (suc i) records) ≡ (all_definite inner (take i records) && is_definite (record_value_in inner (get_or records i d)))
  unfolding all_definite
  definite-next [] i d h = absurd (none i h)
    where
      none : (i : ℕ) → i < 0 → ⊥
      none i h = omega arith
  definite-next (r ∷ rs) zero d h = and-true (is_definite (record_value_in inner r))
  definite-next (r ∷ rs) (suc i) d h =
      ap (λ (t : Bool). is_definite (record_value_in inner r) && t) (definite-next rs i d (less i (length rs) h))
      ∙ and_assoc (is_definite (record_value_in inner r)) (all_definite inner (take i rs)) (is_definite (record_value_in inner (get_or rs i d)))
    where
      less : (i n : ℕ) → suc i < suc n → i < n
      less i n h = omega arith

-- ---- one line more

pub count_le : (f : ℕ → Bool) (n : ℕ) → count_of f n ≤ n
unfolding count_of
count_le f zero = omega arith
count_le f (suc n) = go (f n) (count_of f n) (count_le f n)
  where
    go : (t : Bool) (m : ℕ) → m ≤ n → cond t (suc m) m ≤ suc n
    go true m h = omega arith
    go false m h = omega arith

one_more_is : (t : Bool) (n : ℕ) → n < 4294967295 → one_more t n ≡ cond t (suc n) n
one_more_is true n h = rw (lt-ltb n 4294967295 h) (add-one n)
one_more_is false n h = refl

count_next : (f : ℕ → Bool) (m : ℕ) → m < 4294967295 → one_more (f m) (count_of f m) ≡ count_of f (suc m)
unfolding count_of
count_next f m h = let k = count_le f m in one_more_is (f m) (count_of f m) (omega arith)

module _ (span : Span Float) (position : ℕ → Float) where
  later : (m : ℕ) → eqb (suc m) 0 ≡ false
  later m = ne_eqb (suc m) 0 (λ e. omega arith)

  nearest-next : (m : ℕ) → cond (nearer_than m (distance_of (position m) span.low) (distance_met position span.low m)) m (nearest_met position span.low m) ≡ nearest_among position span.low m
  unfolding nearest_among
  nearest-next zero = refl
  nearest-next (suc m) = rw (later m)

  distance_next : (m : ℕ) → cond (nearer_than m (distance_of (position m) span.low) (distance_met position span.low m)) (distance_of (position m) span.low) (distance_met position span.low m)
      ≡ distance_of (position (nearest_among position span.low m)) span.low
  unfolding nearest_among
  distance_next zero = refl
  distance_next (suc m) = rw (later m) (go (lt (distance_of (position (suc m)) span.low) (distance_of (position (nearest_among position span.low m)) span.low)))
    where
      go : (t : Bool) → cond t (distance_of (position (suc m)) span.low) (distance_of (position (nearest_among position span.low m)) span.low)
          ≡ distance_of (position (cond t (suc m) (nearest_among position span.low m))) span.low
      go true = refl
      go false = refl

  abbrev walk_of : Float → Bool → ℕ → Float → ℕ → ℕ → LineWalk
  walk_of s t n d b u = record { start = s; definite = t; nearest = n; distance = d; below = b; upto = u }

  walk_same : (s : Float) (t : Bool) (n n' : ℕ) (d d' : Float) (b b' u u' : ℕ) → n ≡ n' → d ≡ d' → b ≡ b' → u ≡ u'
      → walk_of s t n d b u ≡ walk_of s t n' d' b' u'
  walk_same s t n n' d d' b b' u u' e f g h = rw (e, f, g, h)

  -- a line is met at its position
  met_next : (t : Bool) (m : ℕ) → m < 4294967295 → line_met span (gathered span position (position m) t m) m ≡ gathered span position (position m) t (suc m)
  unfolding line_met
  met_next t m h =
      walk_same (position m) t _ _ _ _ _ _ _ _ (nearest-next m) (distance_next m)
      (count_next (λ k. lt (position k) span.low) m h) (count_next (λ k. le (position k) span.high) m h)

-- ---- the walk

module _ (span : Span Float) (inner : Option Float) (records : List GridTrack) where
  abbrev last : ℕ
  last = 2 * tracks_among records

  -- the walk after i records, and m lines
  abbrev here : ℕ → ℕ → LineWalk
  here i m = gathered span (position_of inner records) (start_of inner records i) (all_definite inner (take i records)) m

  pub walk-begun : walk_begun ≡ walked_to span inner records 0
  unfolding walked_to start_of sum_from
  walk-begun = rw (le-ltb last 0 (omega arith))

  -- the line that lies at the start of record i, where one does
  at-record : (i : ℕ) → i < 4294967295 → i ≤ last → cond (line_at last i) (line_met span (here i (i / 2)) (i / 2)) (here i (i / 2)) ≡ here i (lines_met last (i + 1))
  at-record i small h =
      ⊎_elim
      (λ (even : i % 2 < 1).
      ⊎_elim
      (λ (inside : i < last).
      let m : (i + 1) / 2 ≡ i / 2 = omega arith in
      rw (ne_eqb (i % 2) 1 (λ e. omega arith), ne_eqb i last (λ e. omega arith), le-ltb last (i + 1) (omega arith), m))
      (λ (end : last ≤ i).
      let m : (i + 1) / 2 ≡ i / 2 = omega arith in
      let p : min (2 * (i / 2) + 1) last ≡ i = omega arith in
      rw (ne_eqb (i % 2) 1 (λ e. omega arith), eq-eqb i last (omega arith), lt-ltb last (i + 1) (omega arith), m) (met i small p))
      (cases_lt i last))
      (λ (odd : 1 ≤ i % 2).
      let m : (i + 1) / 2 ≡ suc (i / 2) = omega arith in
      let p : min (2 * (i / 2) + 1) last ≡ i = omega arith in
      rw (eq-eqb (i % 2) 1 (omega arith), le-ltb last (i + 1) (omega arith), m) (met i small p))
      (cases_lt (i % 2) 1)
    where
      met : (i : ℕ) → i < 4294967295 → min (2 * (i / 2) + 1) last ≡ i → line_met span (here i (i / 2)) (i / 2) ≡ here i (suc (i / 2))
      met i small p =
          let q = all_definite inner (take i records) in
          let e : position_of inner records (i / 2) ≡ start_of inner records i = ap (start_of inner records) p in
          ap (λ (s : Float). line_met span (gathered span (position_of inner records) s q (i / 2)) (i / 2)) (sym e)
          ∙ met_next span (position_of inner records) q (i / 2) (omega arith)
          ∙ ap (λ (s : Float). gathered span (position_of inner records) s q (suc (i / 2))) e

  passed : (i m : ℕ) (d : GridTrack) → i < length records → record_passed (here i m) (record_value_in inner (get_or records i d)) ≡ here (i + 1) m
  unfolding record_passed
  passed i m d h =
      ap₂ (λ (s : Float) (t : Bool). gathered span (position_of inner records) s t m) (sym (start-next inner records i d h)) (sym (definite-next inner records i d h))
      ∙ ap (λ (j : ℕ). here j m) (sym (add-one i))

  -- one record further
  pub walked_on : (i : ℕ) (d : GridTrack) → length records ≡ last + 1 → i < length records → i < 4294967295
      → position_step span inner (walked_to span inner records i) last i (get_or records i d) ≡ walked_to span inner records (i + 1)
  unfolding position_step walked_to
  walked_on i d odd h small =
      let v = record_value_in inner (get_or records i d) in
      let inside : i ≤ last = omega arith in
      ap (λ (m : ℕ). record_passed (cond (line_at last i) (line_met span (here i m) (i / 2)) (here i m)) v) (before inside)
      ∙ ap (λ (w : LineWalk). record_passed w v) (at-record i small inside)
      ∙ passed i (lines_met last (i + 1)) d h
    where
      before : i ≤ last → lines_met last i ≡ i / 2
      before inside = rw (le-ltb last i inside)

  -- after all records: every line, and the size of every record
  pub walked_all : length records ≡ last + 1
      → walked_to span inner records (length records) ≡ gathered span (position_of inner records) (start_of inner records (length records)) (all_definite inner records) (suc (tracks_among records))
  unfolding walked_to
  walked_all odd =
      let m : lines_met last (length records) ≡ suc (tracks_among records) = rw (lt-ltb last (length records) (omega arith)) in
      ap₂ (λ (l : List GridTrack) (n : ℕ). gathered span (position_of inner records) (start_of inner records (length records)) (all_definite inner l) n) (take-length records) m

-- the nearest of the places up to n is one of them
pub nearest_le : (position : ℕ → Float) (x : Float) (n : ℕ) → nearest_among position x n ≤ n
unfolding nearest_among
nearest_le position x zero = omega arith
nearest_le position x (suc n) = go (lt (distance_of (position (suc n)) x) (distance_of (position (nearest_among position x n)) x)) (nearest_among position x n) (nearest_le position x n)
  where
    go : (t : Bool) (m : ℕ) → m ≤ n → cond t (suc n) m ≤ suc n
    go true m h = omega arith
    go false m h = omega arith
