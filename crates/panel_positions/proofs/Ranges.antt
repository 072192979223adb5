-- The records of an axis are in range, whatever its words hold. Assumes nothing.
use Rattle.std.specs.Prelude.{Some, None}
use Prim.Native.Nat.{ℕ, zero, suc, ◌+◌, ◌-◌, ◌/◌, ◌%◌, ◌<◌}
use native.Mathlib.Omega.{arith}
use mathlib.Core.Path.{◌≡◌, refl, sym, subst, ◌∙◌}
use mathlib.Core.Bool.{Bool, true, false, cond, ◌||◌}
use mathlib.Core.List.{List, [], ◌∷◌, map}
use lib.Dec.{T, eqb, leb, ltb}
use lib.Ieee.{binary32, of_bits}
use lib.ListN.{length, get_or}
use Rattle.sizing.specs.declared.MinMax.{MinMax}
use Rattle.sizing.specs.Words.{zero32, float_up_to, largest_bits}
use Rattle.sizing.specs.Ranges.{up_to, largest_length, sizing_in_range}
use Rattle.sizing.proofs.Words.{sizing_in_range_lem}
use Rattle.sizing.proofs.Ranges.{length_bits}
use Rattle.template_rules.specs.Template.{component_of, tracks_from, template_of}
use Rattle.template_rules.specs.declared.RepetitionCount.{RepetitionCount}
use Rattle.track_rules.specs.declared.GridTrack.{GridTrack}
use Rattle.track_rules.specs.declared.TrackSource.TheVariants.{Area, Positive}
use Rattle.track_rules.specs.declared.WrittenTrack.{WrittenTrack}
use Rattle.track_rules.specs.declared.AxisTracks.{AxisTracks}
use Rattle.track_rules.specs.declared.Cursor.{Cursor}
use Rattle.track_rules.specs.declared.Plan.{Plan}
use Rattle.track_rules.specs.Tracks.{auto_size, gutter_of, track_of, zero_grid_track}
use Rattle.track_rules.specs.Written.{written, spares_of}
use Rattle.track_rules.specs.Records.{item_at, records_in, negative_of, explicit_of, spare_at, negative_at, implicit, no_track, closed_by}
use Rattle.track_rules.specs.Steps.{no_component, written_in, written_at, totals_of, track_with, cursor_at, plan_of, pair_with, record_with, record_of}
use Rattle.track_rules.proofs.RecordList.{records-at}
use Rattle.axis_tables.specs.declared.AxisGrid.{AxisGrid}
use Rattle.axis_tables.specs.declared.AxisSpace.{AxisSpace}
use Rattle.axis_tables.specs.Runs.{part_of}
use Rattle.axis_tables.specs.Reads.{inner_in}
use Rattle.panel_rules.specs.Calls.{axis_tracks, template_in, spares_in}
use Rattle.line_positions.specs.Positions.{InnerInRange, SizesInRange, InRange}
use Rattle.panel_positions.specs.Cursor.{records_on}
use Rattle.panel_positions.proofs.Carrying.{records-on, few-tracks}

-- both sizes of a track are in range
abbrev In : MinMax → Type 0
In m = T (sizing_in_range m.min) × T (sizing_in_range m.max)

tracks_in_lem : (mi ma : List ℕ) (p n j : ℕ) → In (get_or (tracks_from mi ma p n) j auto_size)
unfolding tracks_from
tracks_in_lem mi ma p zero j = (tt, tt)
tracks_in_lem mi ma p (suc n) zero = (sizing_in_range_lem (get_or mi p 0), sizing_in_range_lem (get_or ma p 0))
tracks_in_lem mi ma p (suc n) (suc j) = tracks_in_lem mi ma (suc p) n j

spare_in : (mi ma : List ℕ) (i : ℕ) → In (spare_at (spares_of mi ma) i)
unfolding spares_of
spare_in mi ma i = tracks_in_lem mi ma 0 (length mi) (i % length (tracks_from mi ma 0 (length mi)))

-- the tracks of a component, as it writes them
once_in : (count : RepetitionCount) (ts : List MinMax) (j : ℕ) → ((i : ℕ) → In (get_or ts i auto_size)) → In (get_or (map (written count) ts) j no_track).size
once_in count [] j h = (tt, tt)
once_in count (t ∷ ts) zero h = h 0
once_in count (t ∷ ts) (suc j) h = once_in count ts j (λ i. h (suc i))

component_in : (ws mi ma : List ℕ) (k o : ℕ) → In (written_in (get_or (template_of ws mi ma) k no_component) o).size
unfolding template_of
component_in [] mi ma k o = (tt, tt)
component_in (w ∷ ws) mi ma zero o =
    let c = component_of w in
    once_in c.count (tracks_from mi ma c.first c.length) (o % length (tracks_from mi ma c.first c.length)) (λ i. tracks_in_lem mi ma c.first c.length i)
component_in (w ∷ ws) mi ma (suc k) o = component_in ws mi ma k o

module _ (a : AxisTracks) (gap : T (sizing_in_range a.gap)) (ws mi ma low high : List ℕ) (item : ℕ → Bool) where
  abbrev spares : List MinMax
  spares = spares_of low high

  track_in : (count : ℕ) (u : Cursor) (t : ℕ) → In (track_with a count (template_of ws mi ma) spares u t).size
  track_in count u t = go (ltb t (negative_of a)) (ltb t (negative_of a + count))
    where
      go : (x y : Bool) → In (cond x (negative_at spares (negative_of a) t) (cond y (written_at (template_of ws mi ma) u) (implicit (cond (ltb t (negative_of a + explicit_of a)) Area Positive) (spare_at spares (t - (negative_of a + count)))))).size
      go true y = spare_in low high (length spares - negative_of a % length spares + t)
      go false true = component_in ws mi ma u.component u.offset
      go false false = spare_in low high (t - (negative_of a + count))

  zero_in : T (up_to largest_length zero32)
  zero_in = subst T (sym (length_bits 0)) tt

  gutter-in : (shut : Bool) → In (gutter_of a.gap shut).size
  gutter-in true = (zero_in, zero_in)
  gutter-in false = (gap, gap)

  shown-in : (x : WrittenTrack) (shut : Bool) → In x.size → In (track_of x shut).size
  shown-in x true h = (zero_in, zero_in)
  shown-in x false h = h

  pair-in : (even closed late : Bool) (x : WrittenTrack) → In x.size → In (pair_with a.gap even x closed late).size
  pair-in true closed late x h = gutter-in (closed || late)
  pair-in false closed late x h = shown-in x closed h

  with_in : (p : Plan) (u : Cursor) (i : ℕ) → In (record_with a p (template_of ws mi ma) spares item u i).size
  with_in p u zero = gutter-in true
  with_in p u (suc i) =
      let x = track_with a p.written (template_of ws mi ma) spares u (i / 2) in
      pair-in (eqb (suc i % 2) 0) (closed_by item x (i / 2)) (leb p.opened (suc i / 2)) x (track_in p.written u (i / 2))

  record-in : (i : ℕ) → In (record_of a (template_of ws mi ma) (spares_of low high) item i).size
  unfolding record_of
  record-in i = with_in (plan_of a (template_of ws mi ma) item) (cursor_at a (totals_of a.repetitions (template_of ws mi ma)) ((i - 1) / 2)) i

sizes_of_lem : (records : List GridTrack) (d : GridTrack) → ((i : ℕ) → i < length records → In (get_or records i d).size) → SizesInRange records
sizes_of_lem [] d h = tt
sizes_of_lem (r ∷ rs) d h = let z = h 0 (least (length rs)) in (z.0, z.1, sizes_of_lem rs d (λ i k. h (suc i) (more i (length rs) k)))
  where
    least : (n : ℕ) → 0 < suc n
    least n = omega arith

    more : (i n : ℕ) → i < n → suc i < suc n
    more i n h = omega arith

length_in_lem : (bits : ℕ) → T (up_to largest_length (float_up_to largest_bits bits))
unfolding float_up_to
length_in_lem bits = go (leb bits largest_bits) refl
  where
    go : (t : Bool) → leb bits largest_bits ≡ t → T (up_to largest_length (cond t (of_bits binary32 bits) zero32))
    go true e = subst T (sym (length_bits bits ∙ e)) tt
    go false e = subst T (sym (length_bits 0)) tt

inner_in_range_lem : (s : AxisSpace) → InnerInRange (inner_in s)
inner_in_range_lem s = go (eqb s.definite 0)
  where
    go : (t : Bool) → InnerInRange (cond t None (Some (float_up_to largest_bits s.inner)))
    go true = tt
    go false = length_in_lem s.inner

-- so are those of any panel, with its inner size
pub axis_in_range : (g : AxisGrid) (words items : List ℕ) → InRange (inner_in g.space) (records_on g words items)
axis_in_range g words items =
    record {
      space = inner_in_range_lem g.space;
      sizes = sizes_of_lem (records_on g words items) zero_grid_track (λ i h.
          let inside : i < records_in (axis_tracks g) = omega (arith, records-on g words items) in
          subst (λ (r : GridTrack). In r.size) (sym (records-at (axis_tracks g) (template_in g words) (spares_in g words) items i zero_grid_track inside))
          (record-in (axis_tracks g) (sizing_in_range_lem g.space.gap) (part_of words 0 g.template.components) (part_of words 64 g.template.tracks) (part_of words 2112 g.template.tracks) (part_of words 4160 g.implicit.spares) (part_of words 4224 g.implicit.spares) (item_at items) i));
      few = let n = few-tracks g words items in omega (arith, records-on g words items);
    }
