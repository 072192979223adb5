-- Where a name has a filled box in the whole picture, a run of it continues the box of its cells before that run. Assumes nothing.
-- Sets of cells of the name: `Seen` before the run, `All` in the whole picture. The run stands in the row after `above` rows,
-- after `left` words of that row, and is `count` words long.
use Prim.Native.Nat.{ℕ, ◌+◌, ◌-◌, ◌≤◌, ◌<◌}
use mathlib.Core.Path.{◌≡◌}
use mathlib.Core.Logic.{◌↔◌, ◌⊎◌, ⊎_elim}
use native.Mathlib.Omega.{arith}
use Rattle.picture_rules.specs.Picture.{Box, InBox}
use Rattle.picture_rules.proofs.Boxes.{first_cell, last_cell}

module _ (Seen All : ℕ → ℕ → Type 0) (above left count : ℕ) (b e : Box)
    (some : 1 ≤ count) (rows : b.rowstart < b.rowend) (columns : b.columnstart < b.columnend)
    (seen : (r c : ℕ) → Seen r c ↔ InBox b r c) (all : (r c : ℕ) → All r c ↔ InBox e r c)
    (into : (r c : ℕ) → Seen r c → All r c) (back : (r c : ℕ) → r ≤ above → All r c → Seen r c)
    (bounds : (r c : ℕ) → Seen r c → (r ≤ above) ⊎ ((r ≡ above + 1) × (c ≤ left)))
    (run : (c : ℕ) → left < c → c ≤ left + count → All (above + 1) c)
    (before : All (above + 1) left → ⊥) (after : All (above + 1) (left + count + 1) → ⊥) where
  seen_in : (r c : ℕ) → InBox b r c → InBox e r c
  seen_in r c h = (all r c).0 (into r c ((seen r c).1 h))

  first-in : InBox e b.rowstart b.columnstart
  first-in = seen_in _ _ (first_cell b rows columns)

  last-in : InBox e (b.rowend - 1) (b.columnend - 1)
  last-in = seen_in _ _ (last_cell b rows columns)

  run-first : InBox e (above + 1) (left + 1)
  run-first = (all _ _).0 (run (left + 1) (omega arith) (omega arith))

  run-last : InBox e (above + 1) (left + count)
  run-last = (all _ _).0 (run (left + count) (omega arith) (omega arith))

  -- a cell of the whole box in the rows above is one of those seen
  above-seen : (r c : ℕ) → r ≤ above → InBox e r c → InBox b r c
  above-seen r c h i = (seen r c).0 (back r c h ((all r c).1 i))

  no-second-run : above + 1 < b.rowend → ⊥
  no-second-run h = ⊎_elim (λ k. omega arith) second (bounds (b.rowend - 1) b.columnstart ((seen _ _).1 (omega arith, omega arith, omega arith, omega arith)))
    where
      second : (b.rowend - 1 ≡ above + 1) × (b.columnstart ≤ left) → ⊥
      second k = before ((all (above + 1) left).1 (run-first.0, run-first.1, omega (arith, first-in.2, k.1), omega (arith, run-first.3)))

  no_gap : b.rowend ≤ above → ⊥
  no_gap h =
      let i = above-seen above b.columnstart (omega arith) (omega (arith, first-in.0), omega (arith, run-first.1), first-in.2, first-in.3) in
      omega (arith, i.1)

  pub row-meets : b.rowend ≡ above + 1
  row-meets = let h : above + 1 < b.rowend → ⊥ = no-second-run in let k : b.rowend ≤ above → ⊥ = no_gap in omega arith

  no-earlier-start : b.columnstart ≤ left → ⊥
  no-earlier-start h = before ((all (above + 1) left).1 (run-first.0, run-first.1, omega (arith, first-in.2), omega (arith, run-first.3)))

  no-later-start : left + 1 < b.columnstart → ⊥
  no-later-start h =
      let i = above-seen b.rowstart (left + 1) (omega (arith, row-meets)) (first-in.0, first-in.1, run-first.2, run-first.3) in
      omega (arith, i.2)

  pub start-meets : b.columnstart ≡ left + 1
  start-meets = let h : b.columnstart ≤ left → ⊥ = no-earlier-start in let k : left + 1 < b.columnstart → ⊥ = no-later-start in omega arith

  no-later-end : left + count + 1 < b.columnend → ⊥
  no-later-end h = after ((all (above + 1) (left + count + 1)).1 (run-first.0, run-first.1, omega (arith, run-first.2), omega (arith, last-in.3)))

  no-earlier-end : b.columnend ≤ left + count → ⊥
  no-earlier-end h =
      let i = above-seen b.rowstart (left + count) (omega (arith, row-meets)) (first-in.0, first-in.1, run-last.2, run-last.3) in
      omega (arith, i.3)

  pub end-meets : b.columnend ≡ left + 1 + count
  end-meets = let h : left + count + 1 < b.columnend → ⊥ = no-later-end in let k : b.columnend ≤ left + count → ⊥ = no-earlier-end in omega arith
