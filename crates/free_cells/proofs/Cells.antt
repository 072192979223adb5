-- Rectangles that share a cell, and what a search may jump over. Assumes nothing.
use mathlib.Core.Path.{◌≡◌, refl, sym, ◌∙◌}
use mathlib.Core.Bool.{Bool, true, false, cond, ◌&&◌, false≢true}
use mathlib.Core.List.{List, [], ◌∷◌, map}
use Prim.Native.Nat.{ℕ, zero, suc, ◌+◌, ◌≤◌, ◌<◌, min}
use native.Mathlib.Omega.{arith}
use native.Mathlib.Nat.{mod-lt}
use Rattle.std.specs.Prelude.{Option, Some, None, length}
use Rattle.std.specs.List.{filter, fold, reduce, position, position_or_len}
use Rattle.std.proofs.lemmas.List.Quantifiers.{position-Some}
use Rattle.std.proofs.lemmas.List.Sums.{fails_before_first}
use Rattle.std.proofs.lemmas.Option.{none-some}
use lib.Dec.{ltb}
use borrow.Author.Tests.{ltb-true, ltb-false, lt-ltb}
use Rattle.coordinates.specs.declared.axis.Axis.{Axis}
use Rattle.coordinates.specs.declared.axis.Axis.TheVariants.{Column, Row}
use Rattle.coordinates.specs.Types.{LinePair}
use Rattle.free_cells.specs.declared.Rectangle.{Rectangle}
use Rattle.free_cells.specs.Words.{lines_of, lines_word, rectangle_of, rectangle_in}
use Rattle.free_cells.specs.Free.{Overlap, tracks_from, along, Clear, FirstInWay, InWay, FreeLine, FirstOr0, nowhere}
use Rattle.free_cells.specs.Steps.{overlaps, end_along, NextEnds}

-- ---- the test

four : (a b c d : Bool) → (a && b) && (c && d) ≡ true → (a ≡ true) × (b ≡ true) × (c ≡ true) × (d ≡ true)
four true true true true e = (refl, refl, refl, refl)
four true true true false e = absurd (false≢true e)
four true true false d e = absurd (false≢true e)
four true false c d e = absurd (false≢true e)
four false b c d e = absurd (false≢true e)

pub overlaps_to : (a b : Rectangle) → overlaps a b ≡ true → Overlap a b
unfolding overlaps
overlaps_to a b e =
    let t = four (ltb a.columns.start b.columns.end) (ltb b.columns.start a.columns.end) (ltb a.rows.start b.rows.end) (ltb b.rows.start a.rows.end) e in
    record {
      columns = record { before = ltb-true _ _ t.0; after = ltb-true _ _ t.1 };
      rows = record { before = ltb-true _ _ t.2; after = ltb-true _ _ t.3 };
    }

pub overlaps_from : (a b : Rectangle) → Overlap a b → overlaps a b ≡ true
unfolding overlaps
overlaps_from a b o =
    rw (
      lt-ltb a.columns.start b.columns.end o.columns.before,
      lt-ltb b.columns.start a.columns.end o.columns.after,
      lt-ltb a.rows.start b.rows.end o.rows.before,
      lt-ltb b.rows.start a.rows.end o.rows.after,
    )

pub apart : (a b : Rectangle) → overlaps a b ≡ false → Overlap a b → ⊥
apart a b e o = false≢true (sym e ∙ overlaps_from a b o)

-- a word of 0 has no cell
pub none_at_0 : (r : Rectangle) → Overlap (rectangle_of 0) r → ⊥
unfolding rectangle_of lines_of
none_at_0 r o = let h : r.columns.start < 0 = o.columns.after in omega arith

-- ---- in the way: the first of these rectangles

abbrev hits : Rectangle → ℕ → Bool
hits r w = overlaps (rectangle_of w) r

none-hits : (words : List ℕ) (r : Rectangle) → ◌≡◌ {A = Option ℕ} None (position (hits r) words) → Clear words (length words) r
none-hits words r e j w o = go (ltb (position_or_len (hits r) words) (length words)) refl e
  where
    go : (t : Bool) → ltb (position_or_len (hits r) words) (length words) ≡ t → ◌≡◌ {A = Option ℕ} None (cond t (Some (position_or_len (hits r) words)) None) → ⊥
    go true q z = none-some (position_or_len (hits r) words) z
    go false q z = apart (rectangle_in words j) r (fails_before_first (hits r) words j 0 (omega (arith, ltb-false (position_or_len (hits r) words) (length words) q, w))) o

pub way_by : (words : List ℕ) (r : Rectangle) (found : Option ℕ) → found ≡ position (λ w. overlaps (rectangle_of w) r) words → InWay words (length words) r found
way_by words r (Some i) e =
    let p = position-Some (hits r) words i 0 (sym e) in
    record { held = p.0; before = λ j w. apart (rectangle_in words j) r (p.2 j w); here = overlaps_to (rectangle_in words i) r p.1 }
way_by words r None e = none-hits words r e

-- ---- the next end of a row

abbrev end_of : ℕ → ℕ
end_of w = (rectangle_of w).rows.end

abbrev past_ends : ℕ → List ℕ → List ℕ
past_ends row words = filter (λ end. ltb row end) (map end_of words)

module _ (row : ℕ) where
  -- the least of an end and of those of words that lie past the row
  record Least (a : ℕ) (words : List ℕ) (least : ℕ) : Type 0 where
    past : row < least
    upto : least ≤ a
    each : (j : ℕ) → j < length words → row < (rectangle_in words j).rows.end → least ≤ (rectangle_in words j).rows.end

  module _ (a w : ℕ) (words : List ℕ) (n : ℕ) where
    -- one more in front, which lies past the row, or does not
    least-more : row < end_of w → Least (min a (end_of w)) words n → Least a (w ∷ words) n
    least-more h f = record { past = f.past; upto = omega (arith, f.upto); each = each }
      where
        each : (j : ℕ) → j < length (w ∷ words) → row < (rectangle_in (w ∷ words) j).rows.end → n ≤ (rectangle_in (w ∷ words) j).rows.end
        each zero v p = omega (arith, f.upto)
        each (suc j) v p = f.each j (omega arith) p

    least-other : end_of w ≤ row → Least a words n → Least a (w ∷ words) n
    least-other h f = record { past = f.past; upto = f.upto; each = each }
      where
        each : (j : ℕ) → j < length (w ∷ words) → row < (rectangle_in (w ∷ words) j).rows.end → n ≤ (rectangle_in (w ∷ words) j).rows.end
        each zero v p = absurd (omega (arith, h, p))
        each (suc j) v p = f.each j (omega arith) p

  least_past : (a : ℕ) (words : List ℕ) → row < a → Least a words (fold min a (past_ends row words))
  least_past a [] h = record { past = h; upto = omega arith; each = λ j v. absurd (omega arith) }
  least_past a (w ∷ words) h = go (ltb row (end_of w)) refl (λ k. least_past (min a (end_of w)) words (omega (arith, h, k))) (least_past a words h)
    where
      go : (t : Bool) → ltb row (end_of w) ≡ t → (row < end_of w → Least (min a (end_of w)) words (fold min (min a (end_of w)) (past_ends row words)))
          → Least a words (fold min a (past_ends row words)) → Least a (w ∷ words) (fold min a (cond t (end_of w ∷ past_ends row words) (past_ends row words)))
      go true e more other = let k = ltb-true row (end_of w) e in least-more a w words _ k (more k)
      go false e more other = least-other a w words _ (ltb-false row (end_of w) e) other

  next-first : (w : ℕ) (words : List ℕ) (n : ℕ) → Least (end_of w) words n → NextEnds (w ∷ words) (length (w ∷ words)) row (Some n)
  next-first w words n f = record { past = f.past; least = least }
    where
      least : (j : ℕ) → j < length (w ∷ words) → row < (rectangle_in (w ∷ words) j).rows.end → n ≤ (rectangle_in (w ∷ words) j).rows.end
      least zero v p = f.upto
      least (suc j) v p = f.each j (omega arith) p

  next-later : (w : ℕ) (words : List ℕ) (met : Option ℕ) → end_of w ≤ row → NextEnds words (length words) row met → NextEnds (w ∷ words) (length (w ∷ words)) row met
  next-later w words None h f = none
    where
      none : (j : ℕ) → j < length (w ∷ words) → (rectangle_in (w ∷ words) j).rows.end ≤ row
      none zero v = h
      none (suc j) v = f j (omega arith)
  next-later w words (Some n) h f = record { past = f.past; least = least }
    where
      least : (j : ℕ) → j < length (w ∷ words) → row < (rectangle_in (w ∷ words) j).rows.end → n ≤ (rectangle_in (w ∷ words) j).rows.end
      least zero v p = absurd (omega (arith, h, p))
      least (suc j) v p = f.least j (omega arith) p

  next_least : (words : List ℕ) → NextEnds words (length words) row (reduce min (past_ends row words))
  next_least [] = λ j v. absurd (omega arith)
  next_least (w ∷ words) = go (ltb row (end_of w)) refl (next_least words)
    where
      go : (t : Bool) → ltb row (end_of w) ≡ t → NextEnds words (length words) row (reduce min (past_ends row words))
          → NextEnds (w ∷ words) (length (w ∷ words)) row (reduce min (cond t (end_of w ∷ past_ends row words) (past_ends row words)))
      go true e later = next-first w words _ (least_past (end_of w) words (ltb-true row (end_of w) e))
      go false e later = next-later w words _ (ltb-false row (end_of w) e) later

pub next_by : (words : List ℕ) (row : ℕ) (met : Option ℕ) → met ≡ reduce min (filter (λ end. ltb row end) (map (λ w. (rectangle_of w).rows.end) words))
    → NextEnds words (length words) row met
next_by words row met e = rw e (next_least row words)

-- two lines take 32 bits
pub lines-small : (l : LinePair) (w : ℕ) → w ≡ lines_word l → w < 4294967296
unfolding lines_word
lines-small l w e = omega (arith, mod-lt l.start {m = 65536} (omega arith), mod-lt l.end {m = 65536} (omega arith))

-- ---- along an axis

-- what is in the way at a line is in the way up to its end
pub way_on : (axis : Axis) (p : Rectangle) (a b tracks : ℕ) (across : LinePair) → Overlap p (along axis (tracks_from a tracks) across) → a ≤ b → b < end_along axis p
    → Overlap p (along axis (tracks_from b tracks) across)
way_on Column p a b tracks across o h w =
    record { columns = record { before = omega (arith, o.columns.before); after = w }; rows = o.rows }
way_on Row p a b tracks across o h w =
    record { columns = o.columns; rows = record { before = omega (arith, o.rows.before); after = w } }

-- and its end lies past the line
pub way-past : (axis : Axis) (p : Rectangle) (a tracks : ℕ) (across : LinePair) → Overlap p (along axis (tracks_from a tracks) across) → a < end_along axis p
way-past Column p a tracks across o = o.columns.after
way-past Row p a tracks across o = o.rows.after

module _ (words : List ℕ) (count : ℕ) (axis : Axis) (last from tracks : ℕ) (across : LinePair) where
  abbrev pub Here : ℕ → Type 0
  Here = FreeLine words count axis last from tracks across

  abbrev pub NoneBefore : ℕ → Type 0
  NoneBefore at = (m : ℕ) → m < at → Here m → ⊥

  -- the jump to the end of what is in the way
  pub line-jumps : (at i : ℕ) → NoneBefore at → FirstInWay words count (along axis (tracks_from at tracks) across) i
      → NoneBefore (end_along axis (rectangle_in words i))
  line-jumps at i none f m w free = go (ltb m at) refl
    where
      go : (t : Bool) → ltb m at ≡ t → ⊥
      go true e = none m (ltb-true m at e) free
      go false e = free.clear i f.held (way_on axis (rectangle_in words i) at m tracks across f.here (ltb-false m at e) w)

  pub line-grows : (at i : ℕ) → FirstInWay words count (along axis (tracks_from at tracks) across) i → at < end_along axis (rectangle_in words i)
  line-grows at i f = way-past axis (rectangle_in words i) at tracks across f.here

  pub line-nowhere : (at : ℕ) → NoneBefore at → last < at + tracks → FirstOr0 Here 0
  line-nowhere at none h = nowhere refl (λ m free. go m free (ltb m at) refl)
    where
      go : (m : ℕ) → Here m → (t : Bool) → ltb m at ≡ t → ⊥
      go m free true e = none m (ltb-true m at e) free
      go m free false e = omega (arith, ltb-false m at e, free.inside)
