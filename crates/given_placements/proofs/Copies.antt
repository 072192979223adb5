-- A copy of what is lent of a panel, with other placements in it, has the panel's names and areas, and these placements. Assumes nothing.
use Prim.Native.Nat.{ℕ, ◌+◌, ◌≤◌}
use mathlib.Core.Path.{◌≡◌, sym, ap, ◌∙◌}
use mathlib.Core.List.{List, ◌++◌, append_assoc}
use native.Mathlib.Omega.{arith}
use lib.IntN.{ℤ}
use lib.ListN.{length, take, drop}
use lib.Seq.{sets, sets-eq, drop-drop}
use Rattle.coordinates.specs.declared.axis.Axis.{Axis}
use Rattle.coordinates.specs.declared.axis.Axis.TheVariants.{Column, Row}
use Rattle.axis_tables.specs.Runs.{part_of, with_part}
use Rattle.axis_tables.proofs.Regions.{lent-own, lent-before}
use Rattle.panel_tables.specs.declared.Grid.{Grid}
use Rattle.panel_tables.specs.Regions.{axis_words_in, area_words_in, area_bytes_in, placement_words_in, placement_bytes_in}
use Rattle.panel_rules.specs.Calls.{name_tables_in, area_table_in, placement_table_in}
use Rattle.panel_resolving.specs.Placements.{placements_written}

-- values written from a place on are the part from there on
put-part : (s ys : List ℕ) (a n : ℕ) → length ys ≡ n → a + n ≤ length s → sets s a ys ≡ with_part s a n ys
put-part s ys a n e h =
    sets-eq ys s a (omega arith)
    ∙ append_assoc (take a s) ys (drop (a + length ys) s)
    ∙ ap (λ (z : List ℕ). take a s ++ (ys ++ z)) (ap (λ (k : ℕ). drop (a + k) s) e ∙ sym (drop-drop n a s))

module _ (w b p q : List ℕ) (lw : length w ≡ 26368) (lb : length b ≡ 94816) (lp : length p ≡ 1280) (lq : length q ≡ 32768) where
  abbrev words : List ℕ
  words = sets w 25088 p

  abbrev bytes : List ℕ
  bytes = sets b 62048 q

  axis-copied : (a : Axis) → axis_words_in a words ≡ axis_words_in a w
  unfolding axis_words_in
  axis-copied Column = ap (λ (s : List ℕ). part_of s 0 12480) (put-part w p 25088 1280 lp (omega arith)) ∙ lent-before w p 25088 1280 (omega arith) 0 12480 (omega arith)
  axis-copied Row = ap (λ (s : List ℕ). part_of s 12480 12480) (put-part w p 25088 1280 lp (omega arith)) ∙ lent-before w p 25088 1280 (omega arith) 12480 12480 (omega arith)

  areas-copied : area_words_in words ≡ area_words_in w
  unfolding area_words_in
  areas-copied = ap (λ (s : List ℕ). part_of s 24960 128) (put-part w p 25088 1280 lp (omega arith)) ∙ lent-before w p 25088 1280 (omega arith) 24960 128 (omega arith)

  area-bytes-copied : area_bytes_in bytes ≡ area_bytes_in b
  unfolding area_bytes_in
  area-bytes-copied = ap (λ (s : List ℕ). part_of s 60000 2048) (put-part b q 62048 32768 lq (omega arith)) ∙ lent-before b q 62048 32768 (omega arith) 60000 2048 (omega arith)

  placements-own : placement_words_in words ≡ p
  unfolding placement_words_in
  placements-own = ap (λ (s : List ℕ). part_of s 25088 1280) (put-part w p 25088 1280 lp (omega arith)) ∙ lent-own w p 25088 1280 (omega arith) lp

  placement-bytes-own : placement_bytes_in bytes ≡ q
  unfolding placement_bytes_in
  placement-bytes-own = ap (λ (s : List ℕ). part_of s 62048 32768) (put-part b q 62048 32768 lq (omega arith)) ∙ lent-own b q 62048 32768 (omega arith) lq

  pub copy-written : (g : Grid) (columns rows : List ℕ) (numbers : List ℤ)
      → placements_written g (name_tables_in words columns rows) (area_table_in words bytes) (placement_table_in words bytes) 0 numbers
      ≡ placements_written g (name_tables_in w columns rows) (area_table_in w b) (record { words = p; bytes = q }) 0 numbers
  copy-written g columns rows numbers =
      rw (axis-copied Column, axis-copied Row, areas-copied, area-bytes-copied, placements-own, placement-bytes-own)
