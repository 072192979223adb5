-- Lists of column placements don't turn on the rows. Assumes nothing.
use Prim.Native.Nat.{ℕ, zero, suc, ◌+◌, ◌≤◌, ◌<◌, min}
use mathlib.Core.Path.{◌≡◌, refl, sym, ap, ◌∙◌}
use mathlib.Core.Bool.{Bool, true, false, ◌&&◌}
use native.Mathlib.Omega.{arith}
use borrow.Author.Tests.{le-ltb}
use lib.Dec.{eqb}
use Rattle.coordinates.specs.Refusals.{count}
use Rattle.coordinates.specs.declared.axis.Axis.{Axis}
use Rattle.coordinates.specs.declared.axis.Axis.TheVariants.{Column, Row}
use Rattle.track_counts.specs.declared.counts.TrackCounts.{TrackCounts}
use Rattle.name_resolver.specs.Placements.{resolved_ends}
use Rattle.axis_tables.specs.declared.AxisState.{AxisState}
use Rattle.panel_tables.specs.declared.Grid.{Grid}
use Rattle.panel_tables.specs.Placements.{axis_mark}
use Rattle.coordinates.specs.Axes.{axis_number}
use Rattle.panel_rules.specs.Placing.{PlacementAnswer}
use Rattle.panel_rules.specs.Calls.{axis_tracks}
use Rattle.panel_rules.specs.Placing.{refused_placement, resolve_placement}
use Rattle.panel_rules.specs.Alone.{Run, held_by, DifferInRows}
use Rattle.panel_rules.proofs.ColumnsAlone.{columns_alone}
use Rattle.panel_positions.specs.Cursor.{LinesWithin}
use Rattle.panel_positions.proofs.Theorem.{columns-cursor}
use Rattle.placement_hits.specs.Steps.{answers, occupied_of, place_of, passing}
use Rattle.std.specs.Prelude.{Some, None}
use Rattle.placement_hits.specs.declared.Question.{Question}
use Rattle.placement_hits.specs.declared.Question.TheVariants.{Within, Around}
use Rattle.panel_hits.specs.Settled.{Lent, settled, counts_in, settled_hit, settled_hits}
use Rattle.panel_hits.specs.Alone.{lent_of, hits_in, SameHits}
use Rattle.panel_hits.proofs.Numbers.{same-passing}

-- ---- all of 512 places, held or not

-- looking further where nothing passes adds nothing
further : (f : ℕ → Bool) (i n m : ℕ) → n ≤ m → ((k : ℕ) → i + n ≤ k → k < i + m → f k ≡ false) → passing f i n ≡ passing f i m
unfolding passing
further f i zero zero h none = refl
further f i zero (suc m) h none =
    further f (i + 1) zero m (omega arith) (λ k a b. none k (omega arith) (omega arith)) ∙ sym (rw (none i (omega arith) (omega arith)))
further f i (suc n) zero h none = absurd (omega arith)
further f i (suc n) (suc m) h none = rw (further f (i + 1) n m (omega arith) (λ k a b. none k (omega arith) (omega arith)))

no-and : (t : Bool) → t && false ≡ false
no-and true = refl
no-and false = refl

-- a placement that is refused has no lines
refused_out : (a : Axis) (c : TrackCounts) (q : Question) (n : ℕ) → settled_hit a c q (refused_placement n) ≡ false
unfolding settled_hit answers occupied_of
refused_out a c (Within below upto) n = no-and (eqb 0 (axis_number a))
refused_out a c (Around None) n = no-and (eqb 0 (axis_number a))
refused_out a c (Around (Some k)) n = no-and (eqb 0 (axis_number a))

-- one that isn't held is refused
not-held : (g : Grid) (l : Lent) (i : ℕ) → g.placements ≤ i → settled g l i ≡ refused_placement count
unfolding resolve_placement
not-held g l i h = rw (le-ltb i g.placements h)

all_places : (g : Grid) (l : Lent) (a : Axis) (q : Question) → settled_hits g l a q ≡ passing (λ i. settled_hit a (counts_in g a) q (settled g l i)) 0 512
unfolding settled_hits
all_places g l a q =
    further (λ i. settled_hit a (counts_in g a) q (settled g l i)) 0 (min g.placements 512) 512 (omega arith)
    (λ k h b. ap (settled_hit a (counts_in g a) q) (not-held g l k (omega arith)) ∙ refused_out a (counts_in g a) q count)

-- a placement of the rows is in no list of the columns
row_out : (c : TrackCounts) (q : Question) (p : PlacementAnswer) → p.axis ≡ Row → settled_hit Column c q p ≡ false
unfolding settled_hit
row_out c q p e = rw e (go p.cell)
  where
    go : (t : Bool) → eqb (axis_mark Row t) 0 && answers q (occupied_of c (resolved_ends p.line)) ≡ false
    go true = refl
    go false = refl

module _ (p q : Run) (d : DifferInRows p q) where
  counts_same : counts_in (held_by p).panel.grid Column ≡ counts_in (held_by q).panel.grid Column
  counts_same = ap (λ (s : AxisState). (axis_tracks s.grid).counts) (columns_alone p q d).state

  hit_same : (question : Question) (i : ℕ) → settled_hit Column (counts_in (held_by p).panel.grid Column) question (settled (held_by p).panel.grid (lent_of (held_by p)) i)
      ≡ settled_hit Column (counts_in (held_by q).panel.grid Column) question (settled (held_by q).panel.grid (lent_of (held_by q)) i)
  hit_same question i = go (settled (held_by p).panel.grid (lent_of (held_by p)) i).axis refl
    where
      go : (a : Axis) → (settled (held_by p).panel.grid (lent_of (held_by p)) i).axis ≡ a
          → settled_hit Column (counts_in (held_by p).panel.grid Column) question (settled (held_by p).panel.grid (lent_of (held_by p)) i)
          ≡ settled_hit Column (counts_in (held_by q).panel.grid Column) question (settled (held_by q).panel.grid (lent_of (held_by q)) i)
      go Column e =
          ap (settled_hit Column (counts_in (held_by p).panel.grid Column) question) ((columns_alone p q d).placements i e)
          ∙ ap (λ (c : TrackCounts). settled_hit Column c question (settled (held_by q).panel.grid (lent_of (held_by q)) i)) counts_same
      go Row e = row_out _ question _ e ∙ sym (row_out _ question _ (sym ((columns_alone p q d).axes i) ∙ e))

  hits-same : (question : Question) → hits_in (held_by p) Column question ≡ hits_in (held_by q) Column question
  hits-same question =
      all_places (held_by p).panel.grid (lent_of (held_by p)) Column question
      ∙ same-passing _ _ 0 512 (λ i h b. hit_same question i)
      ∙ sym (all_places (held_by q).panel.grid (lent_of (held_by q)) Column question)

  -- beside the third demand: both lists for the columns are the same in runs that differ in rows alone
  pub columns-hits : SameHits p q
  columns-hits =
      record {
        within = λ items low high.
            hits-same _ ∙ ap (λ (lines : LinesWithin). hits_in (held_by q) Column (Within lines.below lines.upto)) ((columns-cursor p q d).lines items low high);
        around = λ line. hits-same _ ∙ ap (λ (c : TrackCounts). hits_in (held_by q) Column (Around (place_of c line))) counts_same;
      }
