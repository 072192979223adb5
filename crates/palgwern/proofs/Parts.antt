-- The part of a store that an answer names. Assumes nothing.
use Prim.Native.Nat.{ℕ, ◌-◌, ◌≤◌, ◌<◌, min}
use mathlib.Core.Path.{◌≡◌, refl, sym, ◌∙◌}
use mathlib.Core.Bool.{Bool, true, false}
use mathlib.Core.List.{List}
use native.Mathlib.Omega.{arith}
use borrow.Author.Tests.{leb-true, leb-false, le-leb, lt-leb, lt-ltb, le-ltb}
use lib.Dec.{leb}
use lib.ListN.{length, take, drop, length-drop, drop_of_length-le}
use lib.Seq.{take_all, take-nil}
use Rattle.name_entries.specs.declared.NameEntry.{NameEntry}
use Rattle.axis_tables.specs.Runs.{part_of}
use Rattle.panel_tables.specs.declared.Grid.{Grid}
use Rattle.coordinates.specs.Axes.{axis_of}
use Rattle.panel_rules.specs.Calls.{NameTables, store_in, shorter_store, line_name_in}
use Rattle.panel_names.specs.LineEntries.{line_entry_in}
use Rattle.panel_names.proofs.LineEntries.{line_entry_name}
use Rattle.library_numbers.specs.declared.NameAnswer.{NameAnswer}
use Rattle.library_numbers.specs.Answers.{name_part}
use Rattle.palgwern.specs.Names.{name_part_of, ShowsName}

-- no more than there is
cut : (l : List ℕ) (n m : ℕ) → length l ≡ m → take (min n m) l ≡ take n l
cut l n m e = by (leb n m) refl
  where
    by : (t : Bool) → leb n m ≡ t → take (min n m) l ≡ take n l
    by true q = let h = leb-true n m q in let k : min n m ≡ n = omega (arith, h) in rw k
    by false q =
        let h = leb-false n m q in
        let k : min n m ≡ m = omega (arith, h) in
        rw k (take_all m l (omega (arith, e)) ∙ sym (take_all n l (omega (arith, e, h))))

-- cut where the store ends, it holds the same bytes
pub cut_part : (store : List ℕ) (offset n : ℕ) → part_of store (min offset (length store)) (min n (length store - offset)) ≡ take n (drop offset store)
cut_part store offset n = by (leb offset (length store)) refl
  where
    by : (t : Bool) → leb offset (length store) ≡ t → part_of store (min offset (length store)) (min n (length store - offset)) ≡ take n (drop offset store)
    by true e =
        let h = leb-true offset (length store) e in
        let k : min offset (length store) ≡ offset = omega (arith, h) in
        rw k (cut (drop offset store) n (length store - offset) (length-drop offset store))
    by false e =
        let h = leb-false offset (length store) e in
        let k : min offset (length store) ≡ length store = omega (arith, h) in
        let a : length store ≤ length store = omega arith in
        let b : length store ≤ offset = omega (arith, h) in
        rw (k, drop_of_length-le store a, drop_of_length-le store b) (take-nil (min n (length store - offset)) ∙ sym (take-nil n))

-- ---- what the call shows

module _ (p : Grid) (t : NameTables) (axis line place : ℕ) where
  -- the part of the entry's name
  pub shows-name : (bytes : ℕ) (e : NameEntry) (r : NameAnswer) → axis ≤ 1 → 32768 ≤ shorter_store t → bytes ≡ length (store_in t (axis_of axis)) →
      e ≡ line_entry_in p t (axis_of axis) line place → r ≡ name_part bytes e → ShowsName p t axis line place r
  unfolding name_part_of
  shows-name bytes e r h s b f g =
      let store = store_in t (axis_of axis) in
      let q : r ≡ name_part (length store) (line_entry_in p t (axis_of axis) line place) = rw (← b, ← f) g in
      record {
        answer = rw (le-leb axis 1 h, le-ltb (shorter_store t) 32768 s) q;
        inside = rw q (omega arith);
        part = rw (q, le-leb axis 1 h) (cut_part store (line_entry_in p t (axis_of axis) line place).offset (line_entry_in p t (axis_of axis) line place).length ∙ line_entry_name p t (axis_of axis) line place);
      }

  -- a number that is no axis
  pub shows-none : 1 < axis → ShowsName p t axis line place (record { number = 4; offset = 0; length = 0 })
  unfolding name_part_of
  shows-none h = record { answer = rw (lt-leb axis 1 h); inside = omega arith; part = rw (lt-leb axis 1 h) }

  -- a store that is short
  pub shows-short : axis ≤ 1 → shorter_store t < 32768 → ShowsName p t axis line place (record { number = 10; offset = 0; length = 0 })
  unfolding name_part_of line_name_in
  shows-short h s =
      record {
        answer = rw (le-leb axis 1 h, lt-ltb (shorter_store t) 32768 s);
        inside = omega arith;
        part = rw (le-leb axis 1 h, lt-ltb (shorter_store t) 32768 s);
      }
