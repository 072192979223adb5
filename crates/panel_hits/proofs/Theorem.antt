-- What the two calls list is what document 02 words, in placement order and complete. Assumes nothing.
use Prim.Native.Nat.{ℕ, zero, suc, ◌≤◌, ◌<◌, min}
use mathlib.Core.Path.{◌≡◌, refl, sym, ap₂, ◌∙◌}
use mathlib.Core.Bool.{Bool, true, false, cond, ◌&&◌}
use mathlib.Core.List.{List}
use mathlib.Core.Logic.{⊎_elim}
use native.Mathlib.Omega.{arith}
use borrow.Author.Tests.{eq-eqb, eqb-true}
use lib.Dec.{eqb}
use lib.IntN.{ℤ, pos, negsuc}
use lib.ListN.{length}
use lib.Seq.{sets}
use Rattle.coordinates.specs.declared.axis.Axis.{Axis}
use Rattle.coordinates.specs.declared.axis.Axis.TheVariants.{Column, Row}
use Rattle.coordinates.proofs.Lines.{lt_or_ge}
use Rattle.track_counts.specs.Counts.{tracks_of}
use Rattle.name_rules.specs.Css.{free, at_line}
use Rattle.name_resolver.specs.Placements.{resolved_ends}
use Rattle.panel_tables.specs.declared.Grid.{Grid}
use Rattle.panel_tables.specs.Axes.{grid_in}
use Rattle.panel_tables.specs.Placements.{axis_mark}
use Rattle.panel_tables.specs.Regions.{axis_words_in}
use Rattle.coordinates.specs.Axes.{axis_number}
use Rattle.panel_rules.specs.Calls.{shorter_store}
use Rattle.axis_tables.specs.Reads.{inner_in}
use Rattle.line_positions.specs.Positions.{lines_before, lines_up_to}
use Rattle.panel_positions.specs.Cursor.{records_on, pixels, cursor_refusal, lines_for, lines_on, lines_within}
use Rattle.panel_positions.specs.Cursor.{LinesWithin}
use Rattle.panel_positions.proofs.Carrying.{tracks-among}
use Rattle.panel_positions.proofs.Theorem.{cursor-theorem}
use Rattle.placement_hits.specs.Hits.{OnGrid, InOrder}
use Rattle.placement_hits.specs.Steps.{answers, occupied_of, place_of}
use Rattle.placement_hits.specs.declared.Question.{Question}
use Rattle.placement_hits.specs.declared.Question.TheVariants.{Within as WithinPlaces, Around as AroundPlace}
use Rattle.placement_hits.proofs.Listing.{passing-in-order}
use Rattle.placement_hits.proofs.Theorem.{within-inside, inside-within, around-between, between-around}
use Rattle.panel_hits.specs.declared.AxisSpan.{AxisSpan}
use Rattle.panel_hits.specs.declared.Around.{Around}
use Rattle.panel_hits.specs.Settled.{Lent, settled, counts_in, settled_hit, settled_hits}
use Rattle.panel_hits.specs.Lists.{WrittenHits, lower, store_refusal, line_refusal, hits_for, older_of, placements_within, placements_around}
use Rattle.panel_hits.specs.Members.{InsideSpan, InSpan, AroundLine, HitsTheorem}
use Rattle.panel_hits.proofs.Far.{far_free}
use Rattle.panel_hits.proofs.Answers.{lower-none}

-- ---- an axis by its number

same-mark : (a : Axis) (cell : Bool) (b : Axis) → axis_mark a cell ≡ axis_number b → (a ≡ b) × (cell ≡ false)
same-mark Column false Column e = (refl, refl)
same-mark Column false Row e = absurd (omega (arith, e))
same-mark Row false Column e = absurd (omega (arith, e))
same-mark Row false Row e = (refl, refl)
same-mark Column true Column e = absurd (omega (arith, e))
same-mark Column true Row e = absurd (omega (arith, e))
same-mark Row true Column e = absurd (omega (arith, e))
same-mark Row true Row e = absurd (omega (arith, e))

axis_alone : (a : Axis) → axis_mark a false ≡ axis_number a
axis_alone Column = refl
axis_alone Row = refl

both : (s t : Bool) → s && t ≡ true → (s ≡ true) × (t ≡ true)
both true t e = (refl, e)
both false t e = absurd (let z : ◌≡◌ {A = ℕ} 0 1 = cc in omega arith)

-- ---- a list of those that pass

module _ (g : Grid) (l : Lent) (a : Axis) (q : Question) where
  -- a placement is of the axis and no cell's half, and its answer holds
  pub hit-parts : (i : ℕ) → settled_hit a (counts_in g a) q (settled g l i) ≡ true
      → (((settled g l i).axis ≡ a) × ((settled g l i).cell ≡ false)) × (answers q (occupied_of (counts_in g a) (resolved_ends (settled g l i).line)) ≡ true)
  unfolding settled_hit
  hit-parts i t =
      let h = both (eqb (axis_mark (settled g l i).axis (settled g l i).cell) (axis_number a)) (answers q (occupied_of (counts_in g a) (resolved_ends (settled g l i).line))) t in
      (same-mark (settled g l i).axis (settled g l i).cell a (eqb-true _ _ h.0), h.1)

  pub parts-hit : (i : ℕ) → (settled g l i).axis ≡ a → (settled g l i).cell ≡ false → answers q (occupied_of (counts_in g a) (resolved_ends (settled g l i).line)) ≡ true
      → settled_hit a (counts_in g a) q (settled g l i) ≡ true
  unfolding settled_hit
  parts-hit i e f t = rw (eq-eqb (axis_mark (settled g l i).axis (settled g l i).cell) (axis_number a) (ap₂ axis_mark e f ∙ axis_alone a), t)

  -- in order, of all placements that the panel says it holds: those past 512 have no lines
  pub listed-in-order : (Member : ℕ → Type 0) → ((i : ℕ) → Member i → OnGrid (counts_in g a) (resolved_ends (settled g l i).line))
      → ((i : ℕ) → settled_hit a (counts_in g a) q (settled g l i) ≡ true → Member i) → ((i : ℕ) → Member i → settled_hit a (counts_in g a) q (settled g l i) ≡ true)
      → InOrder g.placements Member (settled_hits g l a q)
  unfolding settled_hits
  listed-in-order Member on to from =
      let o = passing-in-order (λ i. settled_hit a (counts_in g a) q (settled g l i)) (min g.placements 512) Member (λ i h t. to i t) (λ i h m. from i m) in
      record {
        complete = λ i h m. ⊎_elim (λ (b : i < 512). o.complete i (omega arith) m) (λ (b : 512 ≤ i). absurd (not-far i b m)) (lt_or_ge i 512);
        only = λ i m. let p = o.only i m in let b : i < min g.placements 512 = p.0 in (omega arith, p.1);
        ascending = o.ascending;
      }
    where
      not-far : (i : ℕ) → 512 ≤ i → Member i → ⊥
      not-far i b m = let own = (on i m).own in let e : free ≡ at_line own.start = sym (far_free g l i b) ∙ own.first in let z : ◌≡◌ {A = ℕ} 0 1 = cc in omega arith

-- ---- the two lists

-- around a line that is not 0
pub around_in_order : (g : Grid) (l : Lent) (s : Around) → (s.line ≡ pos 0 → ⊥)
    → InOrder g.placements (AroundLine g l s) (settled_hits g l s.axis (AroundPlace (place_of (counts_in g s.axis) s.line)))
unfolding answers
around_in_order g l s not-0 =
    listed-in-order g l s.axis (AroundPlace (place_of (counts_in g s.axis) s.line)) (AroundLine g l s) (λ i m. m.lines.on)
    (λ i t. let h = hit-parts g l s.axis (AroundPlace (place_of (counts_in g s.axis) s.line)) i t in
    record { axis = h.0.0; place = h.0.1; lines = around-between (counts_in g s.axis) s.line not-0 (resolved_ends (settled g l i).line) h.1 })
    (λ i m. parts-hit g l s.axis (AroundPlace (place_of (counts_in g s.axis) s.line)) i m.axis m.place (between-around (counts_in g s.axis) s.line not-0 (resolved_ends (settled g l i).line) m.lines))

-- within a span, where the lines inside it are those from place `below` on and before place `upto`
pub within_in_order : (g : Grid) (words : List ℕ) (l : Lent) (items : List ℕ) (s : AxisSpan) (below upto : ℕ)
    → ((k : ℕ) → k ≤ tracks_of (counts_in g s.axis) → below ≤ k → k < upto → InsideSpan g words items s k)
    → ((k : ℕ) → k ≤ tracks_of (counts_in g s.axis) → InsideSpan g words items s k → (below ≤ k) × (k < upto))
    → InOrder g.placements (InSpan g words l items s) (settled_hits g l s.axis (WithinPlaces below upto))
unfolding answers
within_in_order g words l items s below upto to from =
    listed-in-order g l s.axis (WithinPlaces below upto) (InSpan g words l items s) (λ i m. m.lines.on)
    (λ i t. let h = hit-parts g l s.axis (WithinPlaces below upto) i t in
    record { axis = h.0.0; place = h.0.1; lines = within-inside (counts_in g s.axis) (InsideSpan g words items s) below upto (resolved_ends (settled g l i).line) to h.1 })
    (λ i m. parts-hit g l s.axis (WithinPlaces below upto) i m.axis m.place (inside-within (counts_in g s.axis) (InsideSpan g words items s) below upto (resolved_ends (settled g l i).line) from m.lines))

-- ---- the two calls

-- an answer without a refusal is a list
listed : (number : ℕ) (list hits : List ℕ) → (hits_for number list hits).answer.number ≡ 0
    → (number ≡ 0) × (hits_for number list hits ≡ record { answer = record { number = 0; count = length list }; hits = sets hits 0 list })
listed number list hits e = let z : number ≡ 0 = go (eqb number 0) refl e in (z, rw (eq-eqb number 0 z))
  where
    go : (t : Bool) → eqb number 0 ≡ t
        → (cond {A = WrittenHits} t (record { answer = record { number = 0; count = length list }; hits = sets hits 0 list }) (record { answer = record { number = number; count = 0 }; hits = hits })).answer.number ≡ 0
        → number ≡ 0
    go true p e = eqb-true number 0 p
    go false p e = e

unrefused : (number below upto : ℕ) → (lines_for number below upto).number ≡ 0 → number ≡ 0
unrefused number below upto e = go (eqb number 0) refl e
  where
    go : (t : Bool) → eqb number 0 ≡ t → (cond {A = LinesWithin} t (record { number = 0; below = below; upto = upto }) (record { number = number; below = 0; upto = 0 })).number ≡ 0 → number ≡ 0
    go true p e = eqb-true number 0 p
    go false p e = e

not_line_0 : (line : ℤ) → line_refusal line ≡ 0 → line ≡ pos 0 → ⊥
not_line_0 (pos zero) e z = omega (arith, e)
not_line_0 (pos (suc n)) e z = let q : suc n ≡ 0 = cc in omega arith
not_line_0 (negsuc k) e z = let q : ◌≡◌ {A = ℕ} 0 1 = cc in omega arith

module _ (g : Grid) (words : List ℕ) (l : Lent) (items : List ℕ) where
  -- the lines within a span are those between the two counts
  inside : (s : AxisSpan) (k : ℕ) → (lines_within g words s.axis items s.bits.low s.bits.high).number ≡ 0 → k ≤ tracks_of (counts_in g s.axis)
      → (InsideSpan g words items s k → ((lines_within g words s.axis items s.bits.low s.bits.high).below ≤ k) × (k < (lines_within g words s.axis items s.bits.low s.bits.high).upto))
      × (((lines_within g words s.axis items s.bits.low s.bits.high).below ≤ k) × (k < (lines_within g words s.axis items s.bits.low s.bits.high).upto) → InsideSpan g words items s k)
  unfolding lines_within lines_on
  inside s k z h =
      let a = grid_in g s.axis in
      let w = axis_words_in s.axis words in
      (cursor-theorem a w items).within s.bits.low s.bits.high
      (unrefused (cursor_refusal a w items s.bits.low s.bits.high) (lines_before (inner_in a.space) (records_on a w items) (pixels s.bits.low)) (lines_up_to (inner_in a.space) (records_on a w items) (pixels s.bits.high)) z)
      k (rw (tracks-among a w items) h)

  pub hits-theorem : HitsTheorem g words l items
  unfolding placements_within placements_around
  hits-theorem =
      record {
        within = λ s hits e.
            let lines = lines_within g words s.axis items s.bits.low s.bits.high in
            let list = settled_hits g l s.axis (WithinPlaces lines.below lines.upto) in
            let a = listed (older_of lines l.names) list hits e in
            let z : lines.number ≡ 0 = (lower-none lines.number (store_refusal (shorter_store l.names)) a.0).0 in
            (list, within_in_order g words l items s lines.below lines.upto (λ k h b u. (inside s k z h).1 (b, u)) (λ k h i. (inside s k z h).0 i), a.1);
        around = λ s hits e.
            let older = older_of (lines_within g words s.axis items 0 0) l.names in
            let list = settled_hits g l s.axis (AroundPlace (place_of (counts_in g s.axis) s.line)) in
            let a = listed (lower older (line_refusal s.line)) list hits e in
            (list, around_in_order g l s (not_line_0 s.line (lower-none older (line_refusal s.line) a.0).1), a.1);
      }
