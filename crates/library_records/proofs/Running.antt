-- The records one after the other: how many there are, and the words that the loop leaves. Assumes nothing.
use Prim.Native.Nat.{ℕ, zero, suc, ◌+◌, ◌*◌, ◌-◌, ◌/◌, ◌%◌, ◌≤◌, ◌<◌, min}
use mathlib.Core.Path.{◌≡◌, refl, sym, ap, ap₂, ◌∙◌}
use mathlib.Core.Logic.{⊎_elim}
use mathlib.Core.Bool.{Bool, true, false, ◌||◌}
use mathlib.Core.List.{List, [], ◌∷◌, ◌++◌, append_assoc}
use native.Mathlib.Nat.{add_assoc}
use native.Mathlib.Omega.{arith}
use borrow.Author.Tests.{eq-eqb, ne_eqb}
use lib.Dec.{leb, eqb}
use lib.ListN.{length}
use lib.Seq.{sets}
use Rattle.std.proofs.lemmas.Bool.{cases_lt}
use Rattle.sizing.specs.declared.MinMax.{MinMax}
use Rattle.sizing.specs.declared.Sizing.{Sizing}
use Rattle.sizing.specs.declared.Sizing.TheVariants.{Length}
use Rattle.sizing.specs.Words.{zero32}
use Rattle.sizing.proofs.Bits.{bits_back}
use Rattle.template_rules.specs.Template.{Component, template_of}
use Rattle.track_rules.specs.declared.GridTrack.{GridTrack}
use Rattle.track_rules.specs.declared.GridTrackKind.{GridTrackKind}
use Rattle.track_rules.specs.declared.GridTrackKind.TheVariants.{Track, Gutter}
use Rattle.track_rules.specs.declared.TrackSource.{TrackSource}
use Rattle.track_rules.specs.declared.TrackSource.TheVariants as Source
use Rattle.track_rules.specs.Tracks.{RecordAnswer}
use Rattle.track_rules.specs.Records.{tracks_in, records_in, item_at, closed_by}
use Rattle.track_rules.specs.declared.AxisTracks.{AxisTracks}
use Rattle.track_rules.specs.declared.Plan.{Plan}
use Rattle.track_rules.specs.Tracks.{grid_track, gutter_of, track_of}
use Rattle.track_rules.specs.declared.Cursor.{Cursor}
use Rattle.track_rules.specs.Steps.{word_totals, written_count, cursor_at, track_at, plan_of, track_with, pair_with, record_with, record_of}
use Rattle.track_rules.specs.declared.WrittenTrack.{WrittenTrack}
use Rattle.track_rules.proofs.Words.{totals_words}
use Rattle.track_rules.proofs.RecordList.{plan-written, record_first, record-later, record_of_lem}
use Rattle.track_run.proofs.Filling.{state-record}
use Rattle.axis_tables.specs.declared.AxisGrid.{AxisGrid}
use Rattle.axis_tables.specs.Runs.{part_of}
use Rattle.track_run.specs.Steps.{state_record}
use Rattle.panel_rules.specs.Calls.{axis_tracks, template_in, spares_in}
use Rattle.panel_calls.proofs.Carried.{carried-answer}
use Rattle.library_records.specs.Pairs.{record_numbers, joined, axis_pair, record_at}
use Rattle.library_records.proofs.Pairs.{joined-none, joined-one, three-runs}
use Rattle.track_rules.specs.Numbers.{kind_number, source_number}
use Rattle.library_numbers.specs.Records.{size_word, record_words, run_words}

-- ---- how many records are at the ends of a run, and what lies between

pub head_fits : (first count head : ℕ) → head ≡ min (1 - first % 2) count → head ≤ count
head_fits first count head e = omega arith

pub head_one : (first count head : ℕ) → head ≡ min (1 - first % 2) count → head ≤ 1
head_one first count head e = omega arith

pairs_fit : (count head pairs : ℕ) → pairs ≡ (count - head) / 2 → 2 * pairs ≤ count - head
pairs_fit count head pairs e = omega arith

left_both : (count head n : ℕ) → count - (head + n) ≡ count - head - n
left_both count head n = omega arith

pub pairs_room : (room count head : ℕ) → head ≤ count → 3 * count ≤ room → 3 * head + 6 * ((count - head) / 2) ≤ room
pairs_room room count head h k = omega arith

pub tail_one : (count head : ℕ) → head ≤ count → count - (head + 2 * ((count - head) / 2)) ≤ 1
tail_one count head h = omega arith

pub tail_room : (room count head : ℕ) → head ≤ count → 3 * count ≤ room → 3 * (head + 2 * ((count - head) / 2)) + 3 * (count - (head + 2 * ((count - head) / 2))) ≤ room
tail_room room count head h k = omega arith

-- ---- the words of records, one after the other

-- the word of size zero
zero_word : 0 ≡ size_word (Length zero32)
zero_word = omega (arith, bits_back 0 (omega arith))

track_words : (x : WrittenTrack) (closed : Bool) → record_numbers 0 (source_number x.source) closed (size_word x.size.min) (size_word x.size.max) ≡ record_words (track_of x closed)
track_words x true = ap (λ (n : ℕ). (0 + 2 + 4 * source_number x.source) ∷ n ∷ n ∷ []) zero_word
track_words x false = refl

gutter_words : (gap : Sizing) (closed : Bool) → record_numbers 1 5 closed (size_word gap) (size_word gap) ≡ record_words (gutter_of gap closed)
gutter_words gap true = ap (λ (n : ℕ). 23 ∷ n ∷ n ∷ []) zero_word
gutter_words gap false = refl

module _ (a : AxisTracks) (cs : List Component) (sp : List MinMax) (items : List ℕ) where
  -- the words of record i
  abbrev pub words_at : ℕ → List ℕ
  words_at i = record_words (record_of a cs sp (item_at items) i)

  module _ (p : Plan) (planned : p ≡ plan_of a cs (item_at items)) where
    -- a track and the gutter after it
    pair-words : (t : ℕ) → axis_pair a p cs sp items t ≡ words_at (suc (2 * t)) ++ words_at (suc (suc (2 * t)))
    pair-words t =
        let x = track_at a cs sp t in
        let shut = closed_by (item_at items) x t in
        let half : 2 * t / 2 ≡ t = omega arith in
        let next : suc (2 * t) / 2 ≡ t = omega arith in
        let after : suc (suc (2 * t)) / 2 ≡ suc t = omega arith in
        let odd : record_of a cs sp (item_at items) (suc (2 * t)) ≡ track_of x shut =
        record-later a cs sp (item_at items) (2 * t) ∙ rw (ne_eqb (suc (2 * t) % 2) 0 (λ e. omega arith), half) in
        let even : record_of a cs sp (item_at items) (suc (suc (2 * t))) ≡ gutter_of a.gap (shut || leb (plan_of a cs (item_at items)).opened (suc t)) =
        record-later a cs sp (item_at items) (suc (2 * t)) ∙ rw (eq-eqb (suc (suc (2 * t)) % 2) 0 (omega arith), next, after) in
        ap₂ ◌++◌ (track_words x shut ∙ ap record_words (sym odd))
        (ap (λ (q : Plan). record_numbers 1 5 (shut || leb q.opened (suc t)) (size_word a.gap) (size_word a.gap)) planned
        ∙ gutter_words a.gap (shut || leb (plan_of a cs (item_at items)).opened (suc t)) ∙ ap record_words (sym even))

    pairs-words : (t n : ℕ) → joined (axis_pair a p cs sp items) t n ≡ joined words_at (2 * t + 1) (2 * n)
    unfolding joined
    pairs-words t zero = refl
    pairs-words t (suc n) =
        let s : 2 * suc n ≡ suc (suc (2 * n)) = omega arith in
        let u : 2 * t + 1 ≡ suc (2 * t) = omega arith in
        let v : 2 * suc t + 1 ≡ suc (suc (suc (2 * t))) = omega arith in
        rw (s, u)
        (ap₂ ◌++◌ (pair-words t) (pairs-words (suc t) n ∙ ap (λ (k : ℕ). joined words_at k (2 * n)) v)
        ∙ append_assoc (words_at (suc (2 * t))) (words_at (suc (suc (2 * t)))) (joined words_at (suc (suc (suc (2 * t)))) (2 * n)))

    -- those between the ends of a run
    pub middle-words : (first count head pairs : ℕ) → head ≡ min (1 - first % 2) count → pairs ≡ (count - head) / 2 →
        joined (axis_pair a p cs sp items) ((first + head) / 2) pairs ≡ joined words_at (first + head) (2 * pairs)
    middle-words first count head pairs e f =
        pairs-words ((first + head) / 2) pairs
        ∙ ⊎_elim
        (λ (g : pairs < 1). let z : 2 * pairs ≡ 0 = omega arith in rw z (joined-none words_at (2 * ((first + head) / 2) + 1) ∙ sym (joined-none words_at (first + head))))
        (λ (g : 1 ≤ pairs). ap (λ (k : ℕ). joined words_at k (2 * pairs)) (starts (omega arith)))
        (cases_lt pairs 1)
      where
        starts : 2 ≤ count - head → 2 * ((first + head) / 2) + 1 ≡ first + head
        starts g = let o : head ≡ 1 - first % 2 = omega arith in odd-start first head o
          where
            odd-start : (first head : ℕ) → head ≡ 1 - first % 2 → 2 * ((first + head) / 2) + 1 ≡ first + head
            odd-start first head o = omega arith

    -- a run by its two ends and what lies between
    pub axis-words : (lent once twice thrice : List ℕ) (first count head pairs : ℕ) → head ≡ min (1 - first % 2) count → pairs ≡ (count - head) / 2 →
        once ≡ sets lent 0 (joined words_at first head) → twice ≡ sets once (3 * head) (joined (axis_pair a p cs sp items) ((first + head) / 2) pairs) →
        thrice ≡ sets twice (3 * (head + 2 * pairs)) (joined words_at (first + (head + 2 * pairs)) (count - (head + 2 * pairs))) →
        thrice ≡ sets lent 0 (joined words_at first count)
    axis-words lent once twice thrice first count head pairs eh ep e f g =
        let n = 2 * pairs in
        let x : 3 * head ≡ 0 + 3 * head = omega arith in
        let y : 3 * (head + n) ≡ 0 + 3 * (head + n) = omega arith in
        three-runs words_at 3 (λ u. refl) lent once twice thrice 0 first count head n (head_fits first count head eh) (pairs_fit count head pairs ep) e
        (f ∙ ap₂ (λ (i : ℕ) (l : List ℕ). sets once i l) x (middle-words first count head pairs eh ep))
        (g ∙ ap (λ (i : ℕ). sets twice i (joined words_at (first + (head + n)) (count - (head + n)))) y
        ∙ ap₂ (λ (i j : ℕ). sets twice (0 + 3 * (head + n)) (joined words_at i j)) (sym (add_assoc first head n)) (left_both count head n))

-- the plan of an axis, from its words
pub planned_count : (a : AxisTracks) (ws mi ma : List ℕ) (item : ℕ → Bool) (p : Plan) → p ≡ plan_of a (template_of ws mi ma) item → p.written ≡ written_count a (word_totals a.repetitions ws)
planned_count a ws mi ma item p e = ap (λ (q : Plan). q.written) e ∙ (plan-written a (template_of ws mi ma) [] item ∙ ap (written_count a) (totals_words a.repetitions ws mi ma))

-- how many tracks the template of an axis writes
pub axis_written : (s : AxisGrid) (words items : List ℕ) (p : Plan) → p ≡ plan_of (axis_tracks s) (template_in s words) (item_at items) →
    p.written ≡ written_count (axis_tracks s) (word_totals s.size.repetitions (part_of words 0 s.template.components))
axis_written s words items p e =
    planned_count (axis_tracks s) (part_of words 0 s.template.components) (part_of words 64 s.template.tracks) (part_of words 2112 s.template.tracks) (item_at items) p e

-- one record, by its cursor
pub edge_record : (a : AxisTracks) (ws mi ma : List ℕ) (sp : List MinMax) (items : List ℕ) (p : Plan) (u : Cursor) (r : GridTrack) (index : ℕ) →
    p ≡ plan_of a (template_of ws mi ma) (item_at items) → u ≡ cursor_at a (word_totals a.repetitions ws) ((index - 1) / 2) →
    r ≡ record_with a p (template_of ws mi ma) sp (item_at items) u index → r ≡ record_of a (template_of ws mi ma) sp (item_at items) index
edge_record a ws mi ma sp items p u r index e f g =
    g ∙ record_of_lem a (template_of ws mi ma) sp (item_at items) index p u e (f ∙ ap (λ (ns : List ℕ). cursor_at a ns ((index - 1) / 2)) (sym (totals_words a.repetitions ws mi ma)))

-- its words, from its kind, its source, whether it is collapsed, and its sizes
abbrev numbers_of : GridTrack → List ℕ
numbers_of r = record_numbers (kind_number r.kind) (source_number r.source) r.collapsed (size_word r.size.min) (size_word r.size.max)

made_words : (kind : GridTrackKind) (source : TrackSource) (size : MinMax) (closed : Bool) → numbers_of (grid_track kind source size closed) ≡ record_words (grid_track kind source size closed)
made_words kind source size true = ap (λ (n : ℕ). (kind_number kind + 2 + 4 * source_number source) ∷ n ∷ n ∷ []) zero_word
made_words kind source size false = refl

pub edge_words : (a : AxisTracks) (p : Plan) (cs : List Component) (sp : List MinMax) (item : ℕ → Bool) (u : Cursor) (r : GridTrack) (i : ℕ) → r ≡ record_with a p cs sp item u i → numbers_of r ≡ record_words r
edge_words a p cs sp item u r zero e = rw e (made_words Gutter Source.Gutter (record { min = a.gap; max = a.gap }) true)
edge_words a p cs sp item u r (suc i) e = rw e (go (eqb (suc i % 2) 0))
  where
    x : WrittenTrack
    x = track_with a p.written cs sp u (i / 2)

    go : (b : Bool) → let y = pair_with a.gap b x (closed_by item x (i / 2)) (leb p.opened (suc i / 2)) in numbers_of y ≡ record_words y
    go true = made_words Gutter Source.Gutter (record { min = a.gap; max = a.gap }) (closed_by item x (i / 2) || leb p.opened (suc i / 2))
    go false = made_words Track x.source x.size (closed_by item x (i / 2))

-- the first gutter
pub first_words : (a : AxisTracks) (cs : List Component) (sp : List MinMax) (items : List ℕ) (index : ℕ) → index ≡ 0 → record_numbers 1 5 true 0 0 ≡ words_at a cs sp items index
first_words a cs sp items index e = rw e (gutter_words a.gap true ∙ ap record_words (sym (record_first a cs sp (item_at items))))

-- a record of an axis's state, by what is carried to it
pub record_written : (s : AxisGrid) (words items : List ℕ) (p : Plan) (index : ℕ) (a : AxisTracks) (ws : List ℕ) (u : Cursor) (r : GridTrack) (k from low high : ℕ) (lent after : List ℕ) (place : ℕ) →
    p ≡ plan_of (axis_tracks s) (template_in s words) (item_at items) → a ≡ axis_tracks s → ws ≡ part_of words 0 s.template.components → u ≡ cursor_at a (word_totals a.repetitions ws) ((index - 1) / 2) →
    r ≡ state_record (template_in s words) (spares_in s words) (item_at items) (record { axis = a; plan = p; cursor = u }) index →
    k ≡ kind_number r.kind → from ≡ source_number r.source → low ≡ size_word r.size.min → high ≡ size_word r.size.max →
    after ≡ sets lent place (record_numbers k from r.collapsed low high) → after ≡ sets lent place (record_at s words items index)
unfolding state_record
record_written s words items p index a ws u r k from low high lent after place ep ea ew eu er ek es el eh e =
    let cs = template_in s words in
    let sp = spares_in s words in
    let cursor : u ≡ cursor_at (axis_tracks s) (word_totals s.size.repetitions (part_of words 0 s.template.components)) ((index - 1) / 2) =
    eu ∙ ap₂ (λ (x : AxisTracks) (l : List ℕ). cursor_at x (word_totals x.repetitions l) ((index - 1) / 2)) ea ew in
    let made : r ≡ record_with (axis_tracks s) p cs sp (item_at items) u index = er ∙ ap (λ (x : AxisTracks). record_with x p cs sp (item_at items) u index) ea in
    let same : record_numbers k from r.collapsed low high ≡ numbers_of r =
    ap₂ (λ (x y : ℕ). record_numbers x y r.collapsed low high) ek es
    ∙ ap₂ (record_numbers (kind_number r.kind) (source_number r.source) r.collapsed) el eh in
    e ∙ ap (sets lent place)
    (same ∙ edge_words (axis_tracks s) p cs sp (item_at items) u r index made
    ∙ ap record_words (edge_record (axis_tracks s) (part_of words 0 s.template.components) (part_of words 64 s.template.tracks) (part_of words 2112 s.template.tracks) sp items p u r index ep cursor made))

-- the one record of an edge
pub edge-one : (f : ℕ → List ℕ) (lent after : List ℕ) (place first count : ℕ) → count ≤ 1 → (count ≡ 0 → ⊥) → after ≡ sets lent place (f first) → after ≡ sets lent place (joined f first count)
edge-one f lent after place first count h some e =
    let one : 1 ≡ count = omega arith in
    e ∙ ap (sets lent place) (sym (joined-one f first) ∙ ap (joined f first) one)

-- the records of an axis's state
pub run_words_lem : (s : AxisGrid) (words items : List ℕ) (first n : ℕ) → first + n ≤ records_in (axis_tracks s) → tracks_in (axis_tracks s) ≤ length items →
    joined (words_at (axis_tracks s) (template_in s words) (spares_in s words) items) first n ≡ run_words s words items first n
unfolding joined run_words
run_words_lem s words items first zero h k = refl
run_words_lem s words items first (suc n) h k =
    let e : first + 1 ≡ suc first = omega arith in
    rw e
    (ap₂ (λ (r : GridTrack) (l : List ℕ). record_words r ++ l)
    (sym (state-record (axis_tracks s) (template_in s words) (item_at items) (spares_in s words) first) ∙ ap (λ (r : RecordAnswer). r.track) (carried-answer s words items first (omega arith) k))
    (run_words_lem s words items (suc first) n (omega arith) k))

-- the number of a source is at most 5
pub source_fits : (source : TrackSource) (n : ℕ) → n ≡ source_number source → n ≤ 5
source_fits Source.Negative n e = omega (arith, e)
source_fits Source.Template n e = omega (arith, e)
source_fits Source.Automatic n e = omega (arith, e)
source_fits Source.Area n e = omega (arith, e)
source_fits Source.Positive n e = omega (arith, e)
source_fits Source.Gutter n e = omega (arith, e)
