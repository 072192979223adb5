-- Track records as numbers, three words each, a run of them at a time.
use Rattle.std.specs.Prelude.{ℕ, zero, suc, ◌+◌, ◌*◌, ◌-◌, ◌/◌, min, cond, ◌||◌, List, [], ◌∷◌, ◌++◌, eqb, leb, ltb, length}
use Rattle.std.proofs.lemmas.List.Edits.{sets}
use Rattle.coordinates.specs.Refusals.{count, short}
use Rattle.sizing.specs.declared.Sizing.{Sizing}
use Rattle.sizing.specs.Words.{size_word_of, kind_of, bits_of}
use Rattle.track_rules.specs.declared.GridTrack.{GridTrack}
use Rattle.track_rules.specs.Numbers.{kind_number, source_number}
use Rattle.track_rules.specs.Records.{tracks_in, records_in}
use Rattle.axis_tables.specs.declared.AxisGrid.{AxisGrid}
use Rattle.panel_tables.specs.declared.Grid.{Grid}
use Rattle.panel_tables.specs.Axes.{grid_in}
use Rattle.panel_tables.specs.Regions.{axis_words_in}
use Rattle.coordinates.specs.Axes.{axis_of}
use Rattle.panel_rules.specs.Calls.{axis_tracks, track_record}
use Rattle.library_numbers.specs.declared.CountAnswer.{CountAnswer}
use Rattle.library_numbers.specs.Answers.{is_axis, counted, uncounted}

-- ---- one record

-- the number of its kind, 2 more where it is collapsed, and 4 times the number of its source
abbrev pub kind_word : GridTrack → ℕ
kind_word r = kind_number r.kind + cond r.collapsed 2 0 + 4 * source_number r.source

-- a size: its kind times 2^32, and the bits of its f32
abbrev pub size_word : Sizing → ℕ
size_word s = size_word_of (kind_of s) (bits_of s)

-- kind and source, minimum, maximum
abbrev pub record_words : GridTrack → List ℕ
record_words r = kind_word r ∷ size_word r.size.min ∷ size_word r.size.max ∷ []

-- ---- a run

-- so many records from one on
unfoldable pub run_words : AxisGrid → List ℕ → List ℕ → ℕ → ℕ → List ℕ
run_words g words items first zero = []
run_words g words items first (suc n) = record_words (track_record g words items first).track ++ run_words g words items (first + 1) n

-- 4 for a first record of 2N + 1 or more; then 10 for fewer than N item bytes, or words for no record
unfoldable pub run_refusal : AxisGrid → ℕ → ℕ → ℕ → ℕ
run_refusal g items lent first =
    cond (leb (records_in (axis_tracks g)) first) count
    (cond (ltb items (tracks_in (axis_tracks g)) || ltb lent 3) short 0)

-- how many records are written: as many as there are, and as fit
unfoldable pub run_count : AxisGrid → ℕ → ℕ → ℕ
run_count g lent first = min (lent / 3) (records_in (axis_tracks g) - first)

-- the answer, and what the lent words hold
pub record WrittenRun : Type 0 where
  pub answer : CountAnswer
  pub words : List ℕ

unfoldable pub written_run : AxisGrid → List ℕ → List ℕ → ℕ → List ℕ → WrittenRun
written_run g words items first lent =
    cond (eqb (run_refusal g (length items) (length lent) first) 0)
    (record {
      answer = counted (run_count g (length lent) first);
      words = sets lent 0 (run_words g words items first (run_count g (length lent) first));
    })
    (record { answer = uncounted (run_refusal g (length items) (length lent) first); words = lent })

-- of an axis by its number
unfoldable pub records_written : Grid → List ℕ → ℕ → List ℕ → ℕ → List ℕ → WrittenRun
records_written g words axis items first lent =
    cond (is_axis axis) (written_run (grid_in g (axis_of axis)) (axis_words_in (axis_of axis) words) items first lent)
    (record { answer = uncounted count; words = lent })
