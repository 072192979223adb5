-- A run of placements as numbers, read back: eight of them are what the placement is settled to. Assumes nothing.
use Prim.Native.Nat.{ℕ, zero, suc, ◌+◌, ◌*◌, ◌-◌, ◌≤◌, ◌<◌, min}
use mathlib.Core.Path.{◌≡◌, refl, ap, ◌∙◌}
use mathlib.Core.Bool.{Bool}
use mathlib.Core.List.{List, ◌++◌}
use native.Mathlib.Omega.{arith}
use borrow.Author.Tests.{lt-leb, le-ltb}
use lib.IntN.{ℤ, pos}
use lib.ListN.{length, get_or, drop, get_or-append}
use lib.Seq.{sets, sets-eq, get_or-append-add}
use Rattle.coordinates.specs.declared.axis.Axis.{Axis}
use Rattle.track_counts.specs.declared.counts.TrackCounts.{TrackCounts}
use Rattle.name_resolver.specs.Types.{NonNamedGridPlacement}
use Rattle.coordinates.specs.declared.line.GenericGridPlacement.TheVariants as Plain
use Rattle.name_resolver.specs.Placements.{resolved_kind_of, resolved_number_of, resolved_of, resolved_ends}
use Rattle.panel_tables.specs.declared.Grid.{Grid}
use Rattle.panel_rules.specs.Placing.{PlacementAnswer}
use Rattle.panel_rules.specs.Calls.{shorter_store}
use Rattle.library_numbers.specs.Answers.{placement_numbers}
use Rattle.panel_resolving.specs.Placements.{WrittenNumbers, numbers_of, run_numbers, numbers_refusal, numbers_count, placements_written}
use Rattle.placement_hits.specs.Steps.{number_at, end_by, ends_at, asked_of, is_hit, passing, Listed, listed_of}
use Rattle.placement_hits.specs.declared.Question.{Question}
use Rattle.panel_hits.specs.Settled.{Lent, settled, counts_in, settled_hit, settled_hits}

-- ---- one placement

-- the kind and number of an end say what it was
end_back : (e : NonNamedGridPlacement) → end_by (pos (resolved_kind_of e)) (resolved_number_of e) ≡ resolved_of e
end_back Plain.Auto = refl
end_back (Plain.Line g) = refl
end_back (Plain.Span k) = refl

-- a placement by its number in a list of numbers
module _ (numbers : List ℤ) (i : ℕ) (p : PlacementAnswer) where
  -- the eight numbers of the placement stand there
  abbrev pub Stands : Type 0
  Stands = (j : ℕ) → j < 8 → number_at numbers i j ≡ get_or (numbers_of (placement_numbers p)) j (pos 0)

  -- its ends
  pub ends-settled : Stands → ends_at numbers i ≡ resolved_ends p.line
  unfolding ends_at placement_numbers
  ends-settled s = rw (s 2 (omega arith), s 3 (omega arith), s 4 (omega arith), s 5 (omega arith), end_back p.line.start, end_back p.line.end)

  pub hit-settled : (a : Axis) (c : TrackCounts) (q : Question) → Stands
      → is_hit (asked_of a c q) numbers i ≡ settled_hit a c q p
  unfolding is_hit settled_hit ends_at placement_numbers
  hit-settled a c q s =
      rw (s 1 (omega arith), s 2 (omega arith), s 3 (omega arith), s 4 (omega arith), s 5 (omega arith), end_back p.line.start, end_back p.line.end)

-- ---- a run

module _ (g : Grid) (l : Lent) where
  abbrev run : ℕ → ℕ → List ℤ
  run first n = run_numbers g l.names l.areas l.placements first n

  pub run_length : (first n : ℕ) → length (run first n) ≡ 8 * n
  unfolding run_numbers
  run_length first zero = refl
  run_length first (suc n) = omega (arith, run_length (first + 1) n)

  pub run_at : (first n i j : ℕ) → i < n → j < 8 → get_or (run first n) (8 * i + j) (pos 0) ≡ get_or (numbers_of (placement_numbers (settled g l (first + i)))) j (pos 0)
  unfolding run_numbers
  run_at first zero i j h k = absurd (omega arith)
  run_at first (suc n) zero j h k =
      let e : 8 * 0 + j ≡ j = omega arith in let f : first ≡ first + 0 = omega arith in
      ap (λ (x : ℕ). get_or (numbers_of (placement_numbers (settled g l first)) ++ run (first + 1) n) x (pos 0)) e
      ∙ get_or-append (numbers_of (placement_numbers (settled g l first))) (run (first + 1) n) (pos 0) j k
      ∙ ap (λ (x : ℕ). get_or (numbers_of (placement_numbers (settled g l x))) j (pos 0)) f
  run_at first (suc n) (suc i) j h k =
      let e : 8 * suc i + j ≡ 8 + (8 * i + j) = omega arith in let f : first + 1 + i ≡ first + suc i = omega arith in
      ap (λ (x : ℕ). get_or (numbers_of (placement_numbers (settled g l first)) ++ run (first + 1) n) x (pos 0)) e
      ∙ get_or-append-add (numbers_of (placement_numbers (settled g l first))) (run (first + 1) n) (8 * i + j) (pos 0)
      ∙ run_at (first + 1) n i j (omega arith) k
      ∙ ap (λ (x : ℕ). get_or (numbers_of (placement_numbers (settled g l x))) j (pos 0)) f

-- numbers written from the first place on are read there
read_back : (lent vs : List ℤ) (k : ℕ) → length vs ≤ length lent → k < length vs → get_or (sets lent 0 vs) k (pos 0) ≡ get_or vs k (pos 0)
read_back lent vs k h b =
    ap (λ (l : List ℤ). get_or l k (pos 0)) (sets-eq vs lent 0 (omega arith)) ∙ get_or-append vs (drop (0 + length vs) lent) (pos 0) k b

-- ---- the tests of a list

pub same-passing : (f g : ℕ → Bool) (i n : ℕ) → ((k : ℕ) → i ≤ k → k < i + n → f k ≡ g k) → passing f i n ≡ passing g i n
unfolding passing
same-passing f g i zero e = refl
same-passing f g i (suc n) e =
    rw (e i (omega arith) (omega arith), same-passing f g (i + 1) n (λ k h b. e k (omega arith) (omega arith)))

-- ---- the whole run, read back

module _ (g : Grid) (l : Lent) (lent : List ℤ) where
  -- what the run leaves: all placements that there are, where the stores are long enough
  pub run-stands : (n : ℕ) → n ≤ 512 → length lent ≡ 4096 → (i : ℕ) → i < n → Stands (sets lent 0 (run g l 0 n)) i (settled g l i)
  run-stands n few long i h j k =
      let e : 0 + i ≡ i = omega arith in
      read_back lent (run g l 0 n) (8 * i + j) (omega (arith, run_length g l 0 n)) (omega (arith, run_length g l 0 n))
      ∙ run_at g l 0 n i j h k ∙ ap (λ (x : ℕ). get_or (numbers_of (placement_numbers (settled g l x))) j (pos 0)) e

  -- the run is not refused where there is a placement
  pub run-left : (w : WrittenNumbers) → w ≡ placements_written g l.names l.areas l.placements 0 lent → 32768 ≤ shorter_store l.names → 0 < g.placements
      → w.numbers ≡ sets lent 0 (run g l 0 (min 512 (g.placements - 0)))
  unfolding placements_written numbers_refusal numbers_count
  run-left w e stores some = ap (λ (x : WrittenNumbers). x.numbers) e ∙ rw (lt-leb g.placements 0 some, le-ltb (shorter_store l.names) 32768 stores)

  -- what is listed of it is what is listed of the settled placements
  pub run-hits : (w : WrittenNumbers) (a : Axis) (q : Question) → w ≡ placements_written g l.names l.areas l.placements 0 lent → 32768 ≤ shorter_store l.names → length lent ≡ 4096
      → passing (is_hit (asked_of a (counts_in g a) q) w.numbers) 0 (min g.placements 512) ≡ settled_hits g l a q
  unfolding settled_hits
  run-hits w a q e stores long =
      same-passing _ _ 0 (min g.placements 512) (λ k h b.
      let n : ℕ = min 512 (g.placements - 0) in
      let below : k < n = omega arith in
      ap (λ (x : List ℤ). is_hit (asked_of a (counts_in g a) q) x k) (run-left w e stores (omega arith))
      ∙ hit-settled (sets lent 0 (run g l 0 n)) k (settled g l k) a (counts_in g a) q (run-stands n (omega arith) long k below))

  -- the same of what the code asks with
  pub settled-listed : (w : WrittenNumbers) (a : Axis) (q : Question) (c : TrackCounts) (hits : List ℕ) (r : Listed) → c ≡ counts_in g a
      → w ≡ placements_written g l.names l.areas l.placements 0 lent → 32768 ≤ shorter_store l.names → length lent ≡ 4096
      → r ≡ listed_of (passing (is_hit (asked_of a c q) w.numbers) 0 (min g.placements 512)) hits
      → r ≡ listed_of (settled_hits g l a q) hits
  settled-listed w a q c hits r f run stores long listed =
      listed ∙ rw f (ap (λ (list : List ℕ). listed_of list hits) (run-hits w a q run stores long))
