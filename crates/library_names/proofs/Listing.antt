-- All line names of an axis in one run: what a run that is not refused needs, and what each leaves. Assumes nothing.
use Prim.Native.Nat.{ℕ, ◌≤◌}
use mathlib.Core.Path.{◌≡◌, refl, subst}
use mathlib.Core.Bool.{Bool, true, false, cond}
use mathlib.Core.List.{List}
use native.Mathlib.Omega.{arith}
use borrow.Author.Tests.{eq-eqb, ne_eqb, ltb-false}
use lib.Dec.{ltb}
use lib.ListN.{length, drop, length-take, length-drop}
use Rattle.std.specs.Prelude.{Result, Ok, Err}
use Rattle.coordinates.specs.Refusals.{number_of, count, short}
use Rattle.coordinates.specs.declared.refusal.Fault.{Fault}
use Rattle.coordinates.proofs.Faults.{fault_some}
use Rattle.name_lists.specs.Lists.{lists, Written}
use Rattle.name_lists.proofs.Counting.{few-lists}
use Rattle.coordinates.specs.declared.axis.Axis.{Axis}
use Rattle.panel_names.proofs.LineEntries.{words_of}
use Rattle.axis_tables.specs.declared.AxisGrid.{AxisGrid}
use Rattle.panel_tables.specs.Regions.{axis_words_in, first_word}
use Rattle.coordinates.specs.declared.axis.Axis.TheVariants.{Column, Row}
use Rattle.name_entries.specs.LineNames.{of_axis}
use Rattle.panel_rules.specs.Calls.{NameTables, entry_words_in, shorter_store, store_in}
use Rattle.library_numbers.specs.Answers.{answered_count_numbers}
use Rattle.library_names.specs.Lists.{lists_refusal, written_lists}

module _ (explicit bytes : ℕ) where
  -- what is not refused has few lines, and long stores
  pub unrefused : lists_refusal explicit bytes ≡ 0 → (explicit ≤ 10000) × (32768 ≤ bytes)
  unfolding lists_refusal
  unrefused = go (ltb 10000 explicit) (ltb bytes 32768) refl refl
    where
      go : (a b : Bool) → ltb 10000 explicit ≡ a → ltb bytes 32768 ≡ b → cond a count (cond b short 0) ≡ 0 → (explicit ≤ 10000) × (32768 ≤ bytes)
      go true b e f z = absurd (omega (arith, z))
      go false true e f z = absurd (omega (arith, z))
      go false false e f z = (ltb-false 10000 explicit e, ltb-false bytes 32768 f)

-- the words of an axis are 12,480 at most
pub axis_long : (a : Axis) (words : List ℕ) → length (axis_words_in a words) ≤ 12480
unfolding axis_words_in
axis_long a words = let e = length-take 12480 (drop (first_word a) words) in omega (arith, e)

pub words_long : (a : Axis) (words : List ℕ) → length (of_axis a (axis_words_in Column words) (axis_words_in Row words)) ≤ 12480
words_long a words = rw (words_of a words) (axis_long a words)

-- a store is no shorter than the shorter one
pub shorter_fits : (t : NameTables) (a : Axis) → shorter_store t ≤ length (store_in t a)
shorter_fits t Column = omega arith
shorter_fits t Row = omega arith

-- and so its entries are 4,096 at most
few-entries : (s : AxisGrid) (words : List ℕ) → length words ≤ 12480 → length (entry_words_in s words) ≤ 4096
few-entries s words e =
    let a = length-take s.entries (drop 8384 words) in
    let b = length-drop 8384 words in
    omega (arith, a, b)

-- the lists of an axis fit in what is lent
pub lists_fit : (a : Axis) (s : AxisGrid) (words store : List ℕ) → length (lists s.size.explicit (entry_words_in s (axis_words_in a words)) store) ≤ 4096
lists_fit a s words store =
    let few = few-entries s (axis_words_in a words) (axis_long a words) in
    let all = few-lists (entry_words_in s (axis_words_in a words)) store s.size.explicit in
    omega (arith, few, all)

module _ (s : AxisGrid) (words store : List ℕ) (bytes : ℕ) (lent entries : List ℕ) (known : entries ≡ entry_words_in s words) where
  -- what a run that is not refused may ask for
  pub lists-asked : lists_refusal s.size.explicit bytes ≡ 0 → length words ≤ 12480 → (s.size.explicit ≤ 10000) × ((length entries ≤ 4096) × (32768 ≤ bytes))
  lists-asked z n =
      let k : length entries ≤ 4096 = rw known (few-entries s words n) in
      let u = unrefused s.size.explicit bytes z in
      (u.0, (k, u.1))

  -- a refusal is its number, and nothing is written
  pub lists-refused : (fault : Fault) → number_of fault ≡ lists_refusal s.size.explicit bytes → record { answer = answered_count_numbers (Err fault); words = lent } ≡ written_lists s words store bytes lent
  unfolding written_lists
  lists-refused fault e = rw (← e, ne_eqb (number_of fault) 0 (fault_some fault))

  -- else the answer is how many names are written
  pub lists-written : (r : Result ℕ Fault) (after : List ℕ) → lists_refusal s.size.explicit bytes ≡ 0
      → ((n : ℕ) × (r ≡ Ok n) × Written lent (lists s.size.explicit entries store) after n)
      → record { answer = answered_count_numbers r; words = after } ≡ written_lists s words store bytes lent
  unfolding written_lists
  lists-written r after z (n, e, w) =
      let v : Written lent (lists s.size.explicit (entry_words_in s words) store) after n =
      subst (λ (l : List ℕ). Written lent (lists s.size.explicit l store) after n) known w in
      let k : n ≡ length (lists s.size.explicit (entry_words_in s words) store) = omega (arith, v.counted) in
      rw (eq-eqb (lists_refusal s.size.explicit bytes) 0 z, e, v.words, k)
