-- Where a line lies, in the three sentences of document 02, and which axes have no definite size. Assumes nothing.
use Rattle.std.specs.Prelude.{Float, Option, Some, None}
use mathlib.Core.Path.{◌≡◌, refl, ap, ◌∙◌}
use Prim.Native.Nat.{ℕ, zero, suc, ◌+◌, ◌-◌, ◌*◌, ◌/◌, ◌<◌, min}
use native.Mathlib.Omega.{arith}
use mathlib.Core.Bool.{Bool, true, false, ◌&&◌, true≢false}
use mathlib.Core.List.{List, [], ◌∷◌}
use lib.ListN.{length, get_or}
use Rattle.sizing.specs.Definite.{is_definite}
use Rattle.sizing.specs.Sums.{sum_from}
use Rattle.track_rules.specs.declared.GridTrack.{GridTrack}
use Rattle.line_positions.specs.Positions.{record_value_in, all_definite, start_of, tracks_among, LinesLie, SomeIndefinite}
use Rattle.line_positions.proofs.Walk.{start-next}

-- the one formula is the three sentences
pub lines_lie : (inner : Option Float) (records : List GridTrack) → LinesLie inner records
unfolding start_of sum_from
lines_lie inner records =
    record {
      track = λ k h. ap (start_of inner records) (first k (tracks_among records) h);
      last = λ d h. ap (start_of inner records) (end (tracks_among records) h) ∙ start-next inner records (2 * tracks_among records - 1) d (inside (length records) h);
      alone = λ k e. ap (start_of inner records) (none k (tracks_among records) e);
    }
  where
    first : (k n : ℕ) → k < n → min (2 * k + 1) (2 * n) ≡ 2 * k + 1
    first k n h = omega arith

    end : (n : ℕ) → 0 < n → min (2 * n + 1) (2 * n) ≡ suc (2 * n - 1)
    end n h = omega arith

    inside : (l : ℕ) → 0 < l / 2 → 2 * (l / 2) - 1 < l
    inside l h = omega arith

    none : (k n : ℕ) → n ≡ 0 → min (2 * k + 1) (2 * n) ≡ 0
    none k n e = omega arith

-- ---- sizes that are not definite

told : (v : Option Float) → is_definite v ≡ false → v ≡ None
told (Some x) h = absurd (true≢false h)
told None h = refl

module _ (inner : Option Float) (d : GridTrack) where
  some : (records : List GridTrack) → all_definite inner records ≡ false → SomeIndefinite inner records d
  unfolding all_definite
  some [] h = absurd (true≢false h)
  some (r ∷ rs) h = go (is_definite (record_value_in inner r)) refl h (λ k. some rs k)
    where
      go : (t : Bool) → is_definite (record_value_in inner r) ≡ t → (t && all_definite inner rs) ≡ false → (all_definite inner rs ≡ false → SomeIndefinite inner rs d) → SomeIndefinite inner (r ∷ rs) d
      go true e k later = let s = later k in record { index = suc s.index; inside = more s.index (length rs) s.inside; indefinite = s.indefinite }
        where
          more : (i n : ℕ) → i < n → suc i < suc n
          more i n h = omega arith
      go false e k later = record { index = 0; inside = least (length rs); indefinite = told (record_value_in inner r) e }
        where
          least : (n : ℕ) → 0 < suc n
          least n = omega arith

  none-at : (records : List GridTrack) (i : ℕ) → i < length records → record_value_in inner (get_or records i d) ≡ None → all_definite inner records ≡ false
  unfolding all_definite
  none-at [] i h e = absurd (none i h)
    where
      none : (i : ℕ) → i < 0 → ⊥
      none i h = omega arith
  none-at (r ∷ rs) zero h e = rw e
  none-at (r ∷ rs) (suc i) h e = rw (none-at rs i (less i (length rs) h) e) (and-false (is_definite (record_value_in inner r)))
    where
      less : (i n : ℕ) → suc i < suc n → i < n
      less i n h = omega arith

      and-false : (t : Bool) → (t && false) ≡ false
      and-false true = refl
      and-false false = refl

  -- not all are definite exactly where some record has no definite size
  pub indefinite-exactly : (records : List GridTrack) → (all_definite inner records ≡ false → SomeIndefinite inner records d) × (SomeIndefinite inner records d → all_definite inner records ≡ false)
  indefinite-exactly records = (some records, λ s. none-at records s.index s.inside s.indefinite)
