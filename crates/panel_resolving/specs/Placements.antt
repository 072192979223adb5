-- Resolved placements as numbers, eight each, a run of them at a time.
use Rattle.std.specs.Prelude.{ℕ, zero, suc, ◌+◌, ◌-◌, ◌<◌, min, cond, List, [], ◌∷◌, ◌++◌, eqb, leb, ltb, ℤ, pos}
use Rattle.std.proofs.lemmas.List.Edits.{sets}
use Rattle.coordinates.specs.Refusals.{count, short}
use Rattle.panel_tables.specs.declared.Grid.{Grid}
use Rattle.panel_rules.specs.Calls.{NameTables, NamedWords, shorter_store}
use Rattle.panel_rules.specs.Placing.{resolve_placement}
use Rattle.library_numbers.specs.declared.CountAnswer.{CountAnswer}
use Rattle.library_numbers.specs.declared.PlacementNumbers.{PlacementNumbers}
use Rattle.library_numbers.specs.Answers.{counted, uncounted, placement_numbers}

-- ---- one placement

-- refusal, axis, and for each end its kind and number
abbrev pub end_numbers : PlacementNumbers → List ℤ
end_numbers n = pos n.number ∷ pos n.axis ∷ pos n.startkind ∷ n.startnumber ∷ pos n.endkind ∷ n.endnumber ∷ []

-- and then for each end its mark
abbrev pub numbers_of : PlacementNumbers → List ℤ
numbers_of n = end_numbers n ++ (pos n.startheld ∷ pos n.endheld ∷ [])

-- the numbers without a sign are below 2^31
pub record SmallNumbers (n : PlacementNumbers) : Type 0 where
  pub number : n.number < 2147483648
  pub axis : n.axis < 2147483648
  pub startkind : n.startkind < 2147483648
  pub endkind : n.endkind < 2147483648
  pub startheld : n.startheld < 2147483648
  pub endheld : n.endheld < 2147483648

-- ---- a run

-- so many placements from one on
unfoldable pub run_numbers : Grid → NameTables → NamedWords → NamedWords → ℕ → ℕ → List ℤ
run_numbers g t areas placements first zero = []
run_numbers g t areas placements first (suc n) =
    numbers_of (placement_numbers (resolve_placement g t areas placements first)) ++ run_numbers g t areas placements (first + 1) n

-- 4 for a first placement that isn't held; then 10 for a store below 32,768 bytes
unfoldable pub numbers_refusal : ℕ → ℕ → ℕ → ℕ
numbers_refusal held shorter first = cond (leb held first) count (cond (ltb shorter 32768) short 0)

-- how many placements are written: as many as there are, and as fit in the 4,096 numbers that are lent
unfoldable pub numbers_count : ℕ → ℕ → ℕ
numbers_count held first = min 512 (held - first)

-- the answer, and what the lent numbers hold
pub record WrittenNumbers : Type 0 where
  pub answer : CountAnswer
  pub numbers : List ℤ

unfoldable pub placements_written : Grid → NameTables → NamedWords → NamedWords → ℕ → List ℤ → WrittenNumbers
placements_written g t areas placements first lent =
    cond (eqb (numbers_refusal g.placements (shorter_store t) first) 0)
    (record {
      answer = counted (numbers_count g.placements first);
      numbers = sets lent 0 (run_numbers g t areas placements first (numbers_count g.placements first));
    })
    (record { answer = uncounted (numbers_refusal g.placements (shorter_store t) first); numbers = lent })
