-- The tracks of an axis in three runs. Assumes nothing.
use Prim.Native.Nat.{ℕ, ◌+◌, ◌*◌, ◌-◌, ◌%◌, ◌≤◌, ◌<◌, min}
use native.Mathlib.Omega.{arith}
use mathlib.Core.Path.{◌≡◌, refl, sym, ap, ap₂, ◌∙◌}
use mathlib.Core.List.{List, [], ◌∷◌}
use mathlib.Core.Bool.{Bool, true, false, cond}
use lib.Dec.{eqb, ltb}
use lib.ListN.{length, get_or}
use lib.Seq.{sets}
use borrow.Author.Tests.{lt-ltb, le-ltb, eqb-true, eqb-false}
use Rattle.sizing.specs.declared.MinMax.{MinMax}
use Rattle.sizing.specs.Words.{sizing_of_kind, sizing_of, min_max_of}
use Rattle.template_rules.specs.Template.{template_of}
use Rattle.track_rules.specs.declared.WrittenTrack.{WrittenTrack}
use Rattle.track_rules.specs.declared.TrackSource.{TrackSource}
use Rattle.track_rules.specs.declared.TrackSource.TheVariants.{Negative, Area, Positive}
use Rattle.track_rules.specs.declared.AxisTracks.{AxisTracks}
use Rattle.track_rules.specs.declared.Cursor.{Cursor}
use Rattle.track_rules.specs.declared.Plan.{Plan}
use Rattle.track_rules.specs.Tracks.{auto_size}
use Rattle.track_rules.specs.Written.{spares_of}
use Rattle.track_rules.specs.Records.{negative_of, explicit_of, item_at, implicit, spare_at}
use Rattle.track_rules.specs.Steps.{word_totals, written_count, cursor_of, cursor_at, written_at}
use Rattle.track_rules.proofs.Words.{totals_words, spares_length, spares_none, spares_get}
use Rattle.track_rules.proofs.AllTracks.{count_in, track-negative, track-explicit, track-past}
use Rattle.axis_tables.specs.declared.AxisGrid.{AxisGrid}
use Rattle.axis_tables.specs.Runs.{part_of}
use Rattle.panel_rules.specs.Calls.{axis_tracks, template_in, spares_in}
use Rattle.library_records.specs.declared.Gutters.{Gutters}
use Rattle.library_records.specs.Pairs.{pair_words, joined, part_pair, spare_pair, positive_pair, template_pair, gutters_of, axis_pair}
use Rattle.library_records.proofs.Pairs.{two_runs, three-runs, joined_same}

module _ (a : AxisTracks) (p : Plan) (ws mi ma : List ℕ) (sp : List MinMax) (items : List ℕ) where
  abbrev pair_of : ℕ → WrittenTrack → List ℕ
  pair_of u x = pair_words (gutters_of a p) (item_at items) u x

  -- before the grid
  pub pair-before : (t first j : ℕ) → first ≡ length sp - negative_of a % length sp → t + j < negative_of a →
      spare_pair Negative sp items (first + t) t (gutters_of a p) (t + j) ≡ axis_pair a p (template_of ws mi ma) sp items (t + j)
  pair-before t first j e h =
      let z : first + t + (t + j - t) ≡ first + (t + j) = omega arith in
      ap (λ (n : ℕ). pair_of (t + j) (implicit Negative (spare_at sp n))) (z ∙ ap (λ (n : ℕ). n + (t + j)) e)
      ∙ sym (ap (pair_of (t + j)) (track-negative a (template_of ws mi ma) sp (item_at items) (t + j) h))

  count-words : p.written ≡ written_count a (word_totals a.repetitions ws) → p.written ≡ count_in a (template_of ws mi ma)
  count-words e = e ∙ ap (written_count a) (sym (totals_words a.repetitions ws mi ma))

  -- of the template
  pub pair-within : (t offset j : ℕ) → p.written ≡ written_count a (word_totals a.repetitions ws) → offset ≡ t - negative_of a → negative_of a ≤ t → t + j < negative_of a + p.written →
      template_pair (word_totals a.repetitions ws) (template_of ws mi ma) items offset t (gutters_of a p) (t + j) ≡ axis_pair a p (template_of ws mi ma) sp items (t + j)
  pair-within t offset j e f h k =
      let c = count-words e in
      let z : offset + (t + j - t) ≡ t + j - negative_of a = omega arith in
      ap (λ (u : Cursor). pair_of (t + j) (written_at (template_of ws mi ma) u))
      (ap (cursor_of (word_totals a.repetitions ws)) z ∙ ap (λ (ns : List ℕ). cursor_at a ns (t + j)) (sym (totals_words a.repetitions ws mi ma)))
      ∙ sym (ap (pair_of (t + j)) (track-explicit a (template_of ws mi ma) sp (item_at items) (t + j) (omega arith) (omega arith)))

  -- after it
  pub pair-after : (t offset j : ℕ) → p.written ≡ written_count a (word_totals a.repetitions ws) → offset ≡ t - (negative_of a + p.written) → negative_of a + p.written ≤ t →
      positive_pair sp items (negative_of a + explicit_of a) offset t (gutters_of a p) (t + j) ≡ axis_pair a p (template_of ws mi ma) sp items (t + j)
  pair-after t offset j e f h =
      let c = count-words e in
      let z : offset + (t + j - t) ≡ t + j - (negative_of a + count_in a (template_of ws mi ma)) = omega arith in
      ap (λ (n : ℕ). pair_of (t + j) (implicit (cond (ltb (t + j) (negative_of a + explicit_of a)) Area Positive) (spare_at sp n))) z
      ∙ sym (ap (pair_of (t + j)) (track-past a (template_of ws mi ma) sp (item_at items) (t + j) (omega arith)))

-- ---- n of c tracks from a on come before an end e
pub taken-fits : (n e a c : ℕ) → n ≡ min (e - a) c → n ≤ c
taken-fits n e a c h = omega arith

taken-within : (n e a c j : ℕ) → n ≡ min (e - a) c → j < n → a + j < e
taken-within n e a c j h k = omega arith

taken-past : (n e a c j : ℕ) → n ≡ min (e - a) c → j < c - n → e ≤ a + n
taken-past n e a c j h k = omega arith

some_left : (n m c j : ℕ) → n ≤ c - m → j < n → 0 < c - m
some_left n m c j h k = omega arith

-- the template has the tracks that are taken of it
within-room : (negative w first written c middle explicit sum : ℕ) → w ≡ min explicit sum → written ≡ min (negative + w - first) c → middle ≡ first - negative → negative ≤ first →
    0 < written → middle + written ≤ sum
within-room negative w first written c middle explicit sum a b e h k = omega arith

pub template-room : (negative w track count before written middle explicit sum : ℕ) → w ≡ min explicit sum → before ≡ min (negative - track) count →
    written ≡ min (negative + w - (track + before)) (count - before) → middle ≡ track + before - negative → 0 < written → middle + written ≤ sum
template-room negative w track count before written middle explicit sum a b f e k =
    within-room negative w (track + before) written (count - before) middle explicit sum a f e
    (taken-past before negative track count 0 b (some_left written before count 0 (taken-fits written (negative + w) (track + before) (count - before) f) k)) k

-- the three runs of an axis
module _ (a : AxisTracks) (p : Plan) (ws mi ma smi sma items : List ℕ) where
  pub axis-runs : (g : Gutters) (before written middle last track count place : ℕ) (lent once twice thrice : List ℕ) →
      g ≡ gutters_of a p → p.written ≡ written_count a (word_totals a.repetitions ws) →
      before ≡ min (negative_of a - track) count → written ≡ min (negative_of a + p.written - (track + before)) (count - before) →
      middle ≡ track + before - negative_of a → last ≡ track + before + written - (negative_of a + p.written) →
      once ≡ sets lent place (joined (spare_pair Negative (spares_of smi sma) items (length smi - negative_of a % length smi + track) track g) track before) →
      twice ≡ sets once (place + 6 * before) (joined (template_pair (word_totals a.repetitions ws) (template_of ws mi ma) items middle (track + before) g) (track + before) written) →
      thrice ≡ sets twice (place + 6 * (before + written)) (joined (positive_pair (spares_of smi sma) items (negative_of a + explicit_of a) last (track + before + written) g) (track + before + written) (count - before - written)) →
      thrice ≡ sets lent place (joined (axis_pair a p (template_of ws mi ma) (spares_of smi sma) items) track count)
  axis-runs h before written middle last track count place lent once twice thrice eg ew eb et em el x y z =
      let sp = spares_of smi sma in
      let pair = axis_pair a p (template_of ws mi ma) sp items in
      let g = gutters_of a p in
      let ns = word_totals a.repetitions ws in
      let first = length smi - negative_of a % length smi in
      let es : first ≡ length sp - negative_of a % length sp = ap (λ (n : ℕ). n - negative_of a % n) (sym (spares_length smi sma)) in
      let fits = taken-fits written (negative_of a + p.written) (track + before) (count - before) et in
      three-runs pair 6 (λ u. refl) lent once twice thrice place track count before written (taken-fits before (negative_of a) track count eb) fits
      (x ∙ ap (λ (n : Gutters). sets lent place (joined (spare_pair Negative sp items (first + track) track n) track before)) eg
      ∙ ap (sets lent place) (joined_same (spare_pair Negative sp items (first + track) track g) pair track before (λ j k. pair-before a p ws mi ma sp items track first j es (taken-within before (negative_of a) track count j eb k))))
      (y ∙ ap (λ (n : Gutters). sets once (place + 6 * before) (joined (template_pair ns (template_of ws mi ma) items middle (track + before) n) (track + before) written)) eg
      ∙ ap (sets once (place + 6 * before))
      (joined_same (template_pair ns (template_of ws mi ma) items middle (track + before) g) pair (track + before) written
      (λ j k. pair-within a p ws mi ma sp items (track + before) middle j ew em (taken-past before (negative_of a) track count 0 eb (some_left written before count j fits k)) (taken-within written (negative_of a + p.written) (track + before) (count - before) j et k))))
      (z ∙ ap (λ (n : Gutters). sets twice (place + 6 * (before + written)) (joined (positive_pair sp items (negative_of a + explicit_of a) last (track + before + written) n) (track + before + written) (count - before - written))) eg
      ∙ ap (sets twice (place + 6 * (before + written)))
      (joined_same (positive_pair sp items (negative_of a + explicit_of a) last (track + before + written) g) pair (track + before + written) (count - before - written)
      (λ j k. pair-after a p ws mi ma sp items (track + before + written) last j ew el (taken-past written (negative_of a + p.written) (track + before) (count - before) j et k))))

-- those of an axis's state
pub pairs_written : (s : AxisGrid) (p : Plan) (words items : List ℕ) (a : AxisTracks) (smi sma : List ℕ) (g : Gutters) (before written middle last track count place : ℕ) (lent once twice thrice : List ℕ) →
    a ≡ axis_tracks s → smi ≡ part_of words 4160 s.implicit.spares → sma ≡ part_of words 4224 s.implicit.spares → g ≡ gutters_of (axis_tracks s) p →
    p.written ≡ written_count (axis_tracks s) (word_totals s.size.repetitions (part_of words 0 s.template.components)) →
    before ≡ min (negative_of a - track) count → written ≡ min (negative_of a + p.written - (track + before)) (count - before) →
    middle ≡ track + before - negative_of a → last ≡ track + before + written - (negative_of a + p.written) →
    once ≡ sets lent place (joined (spare_pair Negative (spares_of smi sma) items (length smi - negative_of a % length smi + track) track g) track before) →
    twice ≡ sets once (place + 6 * before) (joined (template_pair (word_totals s.size.repetitions (part_of words 0 s.template.components)) (template_in s words) items middle (track + before) g) (track + before) written) →
    thrice ≡ sets twice (place + 6 * (before + written)) (joined (positive_pair (spares_of smi sma) items (negative_of a + explicit_of a) last (track + before + written) g) (track + before + written) (count - before - written)) →
    thrice ≡ sets lent place (joined (axis_pair (axis_tracks s) p (template_in s words) (spares_in s words) items) track count)
pairs_written s p words items a smi sma g before written middle last track count place lent once twice thrice ea ei em eg ew eb et ef el x y z =
    let low = part_of words 4160 s.implicit.spares in
    let high = part_of words 4224 s.implicit.spares in
    axis-runs (axis_tracks s) p (part_of words 0 s.template.components) (part_of words 64 s.template.tracks) (part_of words 2112 s.template.tracks) low high items g before written middle last track count place lent once twice thrice eg ew
    (eb ∙ ap (λ (n : AxisTracks). min (negative_of n - track) count) ea)
    (et ∙ ap (λ (n : AxisTracks). min (negative_of n + p.written - (track + before)) (count - before)) ea)
    (ef ∙ ap (λ (n : AxisTracks). track + before - negative_of n) ea)
    (el ∙ ap (λ (n : AxisTracks). track + before + written - (negative_of n + p.written)) ea)
    (x ∙ ap₂ (λ (n : AxisTracks) (l : List ℕ). sets lent place (joined (spare_pair Negative (spares_of l sma) items (length l - negative_of n % length l + track) track g) track before)) ea ei
    ∙ ap (λ (l : List ℕ). sets lent place (joined (spare_pair Negative (spares_of low l) items (length low - negative_of (axis_tracks s) % length low + track) track g) track before)) em)
    y
    (z ∙ ap₂ (λ (l m : List ℕ). sets twice (place + 6 * (before + written)) (joined (positive_pair (spares_of l m) items (negative_of a + explicit_of a) last (track + before + written) g) (track + before + written) (count - before - written))) ei em
    ∙ ap (λ (n : AxisTracks). sets twice (place + 6 * (before + written)) (joined (positive_pair (spares_of low high) items (negative_of n + explicit_of n) last (track + before + written) g) (track + before + written) (count - before - written))) ea)

-- the same of a stretch that is cut twice
pub pairs_cut : (s : AxisGrid) (p : Plan) (words items : List ℕ) (a : AxisTracks) (smi sma : List ℕ) (g : Gutters) (before written middle last track count place : ℕ) (lent once twice thrice : List ℕ) (ef ec ep rf rc rp mf mc mp lf lc lp : ℕ) →
    (ef ≡ track) × (ec ≡ before) × (ep ≡ place) → (rf ≡ track + before) × (rc ≡ count - before) × (rp ≡ place + 6 * before) →
    (mf ≡ rf) × (mc ≡ written) × (mp ≡ rp) → (lf ≡ rf + written) × (lc ≡ rc - written) × (lp ≡ rp + 6 * written) →
    a ≡ axis_tracks s → smi ≡ part_of words 4160 s.implicit.spares → sma ≡ part_of words 4224 s.implicit.spares → g ≡ gutters_of (axis_tracks s) p →
    p.written ≡ written_count (axis_tracks s) (word_totals s.size.repetitions (part_of words 0 s.template.components)) →
    before ≡ min (negative_of a - track) count → written ≡ min (negative_of a + p.written - rf) rc →
    middle ≡ mf - negative_of a → last ≡ lf - (negative_of a + p.written) →
    once ≡ sets lent ep (joined (spare_pair Negative (spares_of smi sma) items (length smi - negative_of a % length smi + ef) ef g) ef ec) →
    twice ≡ sets once mp (joined (template_pair (word_totals s.size.repetitions (part_of words 0 s.template.components)) (template_in s words) items middle mf g) mf mc) →
    thrice ≡ sets twice lp (joined (positive_pair (spares_of smi sma) items (negative_of a + explicit_of a) last lf g) lf lc) →
    thrice ≡ sets lent place (joined (axis_pair (axis_tracks s) p (template_in s words) (spares_in s words) items) track count)
pairs_cut s p words items a smi sma g before written middle last track count place lent once twice thrice ef ec ep rf rc rp mf mc mp lf lc lp e r m l ea ei em eg ew eb et ef' el x y z =
    let far : lp ≡ place + 6 * (before + written) = omega (arith, r.2, l.2) in
    pairs_written s p words items a smi sma g before written middle last track count place lent once twice thrice ea ei em eg ew eb
    (rw (r.0, r.1) at et)
    (rw (m.0, r.0) at ef')
    (rw (l.0, r.0) at el)
    (rw (e.0, e.1, e.2) at x)
    (rw (m.0, m.1, m.2, r.0, r.2) at y)
    (rw (l.0, l.1, far, r.0, r.1) at z)

-- the word of an auto size
auto-word : min_max_of 12884901888 12884901888 ≡ auto_size
unfolding sizing_of sizing_of_kind
auto-word = refl

module _ (mi ma items : List ℕ) (source : TrackSource) (offset t : ℕ) (g : Gutters) where
  -- where there are no spare sizes, a table of one auto size
  pair-auto : (auto : List ℕ) → get_or auto 0 0 ≡ 12884901888 → length mi ≡ 0 → (j : ℕ) →
      part_pair auto auto items (record { first = 0; length = 1; source = source; fit = false }) offset t g (t + j) ≡ spare_pair source (spares_of mi ma) items offset t g (t + j)
  pair-auto auto e h j =
      let z : 0 + (offset + (t + j - t)) % 1 ≡ 0 = omega arith in
      ap (λ (n : ℕ). pair_words g (item_at items) (t + j) (implicit source (min_max_of (get_or auto n 0) (get_or auto n 0)))) z
      ∙ ap (λ (w : ℕ). pair_words g (item_at items) (t + j) (implicit source (min_max_of w w))) e
      ∙ ap (λ (s : MinMax). pair_words g (item_at items) (t + j) (implicit source s)) (auto-word ∙ sym (spares_none mi ma (offset + (t + j - t)) h))

  pair-spare : (length mi ≡ 0 → ⊥) → (j : ℕ) →
      part_pair mi ma items (record { first = 0; length = length mi; source = source; fit = false }) offset t g (t + j) ≡ spare_pair source (spares_of mi ma) items offset t g (t + j)
  pair-spare h j =
      let n = (offset + (t + j - t)) % length mi in
      let z : 0 + n ≡ n = omega arith in
      ap (λ (k : ℕ). pair_words g (item_at items) (t + j) (implicit source (min_max_of (get_or mi k 0) (get_or ma k 0)))) z
      ∙ sym (ap (λ (s : MinMax). pair_words g (item_at items) (t + j) (implicit source s)) (spares_get mi ma (offset + (t + j - t)) h))

  -- in tables that hold one auto size where there are none
  pub pair-or : (low high : List ℕ) (auto : ℕ) → auto ≡ 12884901888 → low ≡ cond (eqb (length mi) 0) (auto ∷ []) mi → high ≡ cond (eqb (length mi) 0) (auto ∷ []) ma → (j : ℕ) →
      part_pair low high items (record { first = 0; length = length low; source = source; fit = false }) offset t g (t + j) ≡ spare_pair source (spares_of mi ma) items offset t g (t + j)
  pair-or low high auto e l h j = go (eqb (length mi) 0) refl
    where
      pair : List ℕ → List ℕ → List ℕ
      pair x y = part_pair x y items (record { first = 0; length = length x; source = source; fit = false }) offset t g (t + j)

      go : (b : Bool) → eqb (length mi) 0 ≡ b → pair low high ≡ spare_pair source (spares_of mi ma) items offset t g (t + j)
      go true k = ap₂ pair (l ∙ ap (λ (c : Bool). cond c (auto ∷ []) mi) k) (h ∙ ap (λ (c : Bool). cond c (auto ∷ []) ma) k) ∙ pair-auto (auto ∷ []) e (eqb-true (length mi) 0 k) j
      go false k = ap₂ pair (l ∙ ap (λ (c : Bool). cond c (auto ∷ []) mi) k) (h ∙ ap (λ (c : Bool). cond c (auto ∷ []) ma) k) ∙ pair-spare (eqb-false (length mi) 0 k) j

-- the tracks after those of the template in two runs: those that only an area makes, and those after the grid
module _ (sp : List MinMax) (items : List ℕ) (end offset first : ℕ) (g : Gutters) where
  area-pair : (j : ℕ) → first + j < end → spare_pair Area sp items offset first g (first + j) ≡ positive_pair sp items end offset first g (first + j)
  area-pair j h = ap (λ (b : Bool). spare_pair (cond b Area Positive) sp items offset first g (first + j)) (sym (lt-ltb (first + j) end h))

  late-pair : (areas j : ℕ) → end ≤ first + areas → spare_pair Positive sp items (offset + areas) (first + areas) g (first + areas + j) ≡ positive_pair sp items end offset first g (first + areas + j)
  late-pair areas j h =
      let z : offset + areas + (first + areas + j - (first + areas)) ≡ offset + (first + areas + j - first) = omega arith in
      ap (λ (n : ℕ). pair_words g (item_at items) (first + areas + j) (implicit Positive (spare_at sp n))) z
      ∙ ap (λ (b : Bool). spare_pair (cond b Area Positive) sp items offset first g (first + areas + j)) (sym (le-ltb (first + areas + j) end (omega arith)))

  positive-runs : (areas count place : ℕ) (lent once twice : List ℕ) → areas ≡ min (end - first) count →
      once ≡ sets lent place (joined (spare_pair Area sp items offset first g) first areas) →
      twice ≡ sets once (place + 6 * areas) (joined (spare_pair Positive sp items (offset + areas) (first + areas) g) (first + areas) (count - areas)) →
      twice ≡ sets lent place (joined (positive_pair sp items end offset first g) first count)
  positive-runs areas count place lent once twice e x y =
      two_runs (positive_pair sp items end offset first g) 6 (λ u. refl) lent once twice place first count areas (taken-fits areas end first count e)
      (x ∙ ap (sets lent place) (joined_same (spare_pair Area sp items offset first g) (positive_pair sp items end offset first g) first areas (λ j k. area-pair j (taken-within areas end first count j e k))))
      (y ∙ ap (sets once (place + 6 * areas))
      (joined_same (spare_pair Positive sp items (offset + areas) (first + areas) g) (positive_pair sp items end offset first g) (first + areas) (count - areas) (λ j k. late-pair areas j (taken-past areas end first count j e k))))

  -- the same of a stretch that is cut
  pub positive-cut : (areas count place : ℕ) (lent once twice : List ℕ) (ef ec ep lf lc lp : ℕ) → (ef ≡ first) × (ec ≡ areas) × (ep ≡ place) → (lf ≡ first + areas) × (lc ≡ count - areas) × (lp ≡ place + 6 * areas) →
      areas ≡ min (end - first) count →
      once ≡ sets lent ep (joined (spare_pair Area sp items offset ef g) ef ec) →
      twice ≡ sets once lp (joined (spare_pair Positive sp items (offset + areas) lf g) lf lc) →
      twice ≡ sets lent place (joined (positive_pair sp items end offset first g) first count)
  positive-cut areas count place lent once twice ef ec ep lf lc lp u v e x y =
      positive-runs areas count place lent once twice e (rw (u.0, u.1, u.2) at x) (rw (v.0, v.1, v.2) at y)
