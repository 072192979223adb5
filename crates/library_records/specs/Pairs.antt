-- Track records as numbers, three words each: a track and the gutter after it at a time.
use Rattle.std.specs.Prelude.{ℕ, zero, suc, ◌+◌, ◌*◌, ◌-◌, ◌%◌, Bool, cond, not, ◌&&◌, ◌||◌, List, [], ◌∷◌, ◌++◌, leb, ltb, get_or}
use Rattle.sizing.specs.declared.MinMax.{MinMax}
use Rattle.sizing.specs.Words.{min_max_of}
use Rattle.template_rules.specs.Template.{Component}
use Rattle.track_rules.specs.declared.AxisTracks.{AxisTracks}
use Rattle.track_rules.specs.declared.Plan.{Plan}
use Rattle.track_rules.specs.declared.WrittenTrack.{WrittenTrack}
use Rattle.track_rules.specs.declared.TrackSource.{TrackSource}
use Rattle.track_rules.specs.declared.TrackSource.TheVariants.{Area, Positive, Gutter}
use Rattle.track_rules.specs.Records.{item_at, implicit, spare_at}
use Rattle.track_rules.specs.Steps.{cursor_of, written_at, track_at, record_of}
use Rattle.axis_tables.specs.declared.AxisGrid.{AxisGrid}
use Rattle.panel_rules.specs.Calls.{axis_tracks, template_in, spares_in}
use Rattle.track_rules.specs.Numbers.{source_number}
use Rattle.library_numbers.specs.Records.{size_word, record_words}
use Rattle.library_records.specs.declared.Gutters.{Gutters}
use Rattle.track_record.specs.declared.Repeated.{Repeated}

-- a record of a kind, 0 a track and 1 a gutter, with 4 times its source: a collapsed one has 2 more, and both sizes length 0
abbrev pub record_numbers : ℕ → ℕ → Bool → ℕ → ℕ → List ℕ
record_numbers kind source closed low high = (kind + cond closed 2 0 + 4 * source) ∷ cond closed 0 low ∷ cond closed 0 high ∷ []

-- track t, as it is written out, and the gutter after it
abbrev pub pair_words : Gutters → (ℕ → Bool) → ℕ → WrittenTrack → List ℕ
pair_words g item t x =
    record_numbers 0 (source_number x.source) (x.fit && not (item t)) (size_word x.size.min) (size_word x.size.max)
    ++ record_numbers 1 (source_number Gutter) ((x.fit && not (item t)) || leb g.opened (suc t)) g.gap g.gap

-- n lists one after the other, from list t on
unfoldable pub joined : (ℕ → List ℕ) → ℕ → ℕ → List ℕ
joined list t zero = []
joined list t (suc n) = list t ++ joined list (suc t) n

-- track u of tracks that repeat, where track t is at `offset`
abbrev pub part_pair : List ℕ → List ℕ → List ℕ → Repeated → ℕ → ℕ → Gutters → ℕ → List ℕ
part_pair minimums maximums items part offset t g u =
    let place = part.first + (offset + (u - t)) % part.length in
    pair_words g (item_at items) u (record { size = min_max_of (get_or minimums place 0) (get_or maximums place 0); source = part.source; fit = part.fit })

-- track u of spare sizes, from a source, where track t has the one at `offset`
abbrev pub spare_pair : TrackSource → List MinMax → List ℕ → ℕ → ℕ → Gutters → ℕ → List ℕ
spare_pair source spares items offset t g u = pair_words g (item_at items) u (implicit source (spare_at spares (offset + (u - t))))

-- the same after the template's tracks: before track `end` only an area makes them
abbrev pub positive_pair : List MinMax → List ℕ → ℕ → ℕ → ℕ → Gutters → ℕ → List ℕ
positive_pair spares items end offset t g u = spare_pair (cond (ltb u end) Area Positive) spares items offset t g u

-- track u as the template writes it, its components as many tracks as ns says, where track t is at `offset`
abbrev pub template_pair : List ℕ → List Component → List ℕ → ℕ → ℕ → Gutters → ℕ → List ℕ
template_pair ns cs items offset t g u =
    pair_words g (item_at items) u (written_at cs (cursor_of ns (offset + (u - t))))

-- what the gutters of an axis share
abbrev pub gutters_of : AxisTracks → Plan → Gutters
gutters_of a p = record { gap = size_word a.gap; opened = p.opened }

-- track u of an axis
abbrev pub axis_pair : AxisTracks → Plan → List Component → List MinMax → List ℕ → ℕ → List ℕ
axis_pair a p cs sp items u = pair_words (gutters_of a p) (item_at items) u (track_at a cs sp u)

-- the words of record i of an axis
abbrev pub record_at : AxisGrid → List ℕ → List ℕ → ℕ → List ℕ
record_at g words items i = record_words (record_of (axis_tracks g) (template_in g words) (spares_in g words) (item_at items) i)
