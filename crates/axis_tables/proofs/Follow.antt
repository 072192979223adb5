-- The words and bytes of an axis follow its view, line by line. Assumes nothing.
use Prim.Native.Nat.{ℕ, ◌+◌, ◌≤◌, ◌<◌}
use mathlib.Core.Path.{◌≡◌, sym, ap, ◌∙◌}
use mathlib.Core.List.{List, [], ◌∷◌, ◌++◌, map-append}
use native.Mathlib.Omega.{arith}
use lib.ListN.{length, set, length-map}
use lib.Seq.{sets}
use Rattle.axis_tables.specs.Lay.{pad, Region, joined}
use Rattle.axis_tables.specs.Runs.{bytes_of}
use Rattle.axis_tables.specs.View.{Sizes, name, track, Repeat, Item, single, repeat, none, inside, AxisView, tracks_in, tracks_of, components_of, NameRecord, name_of, names_of, with_template, more_pieces}
use Rattle.template_rules.specs.Template.{component_word}
use Rattle.name_entries.specs.Places.{name_word}
use Rattle.axis_tables.specs.Written.{min_of, max_of, record_word, regions_of, words_with, axis_words}
use Rattle.axis_tables.proofs.Lays.{pad_puts, lay-put}
use Rattle.axis_tables.proofs.Runs.{bytes-more, length-words, words_more}
use Rattle.axis_tables.proofs.Joins.{length-components}
use Rattle.axis_tables.proofs.More

module _ (v : AxisView) (is : List Item) where
  -- a track outside a repeat
  pub single-words : (t : Sizes) → length (components_of is) < 64 → length (tracks_of is) < 2048
      → set (set (set (axis_words (with_template v is none)) (length (components_of is)) (component_word 0 0 (length (tracks_of is)) 1)) (64 + length (tracks_of is)) t.min) (2112 + length (tracks_of is)) t.max
      ≡ axis_words (with_template v (is ++ (single (track t) ∷ [])) none)
  unfolding words_with regions_of
  single-words t h k =
      let rs : List Region = regions_of (with_template v is none) [] in
      let c : ℕ = length (components_of is) in
      let n : ℕ = length (tracks_of is) in
      let x : ℕ = component_word 0 0 n 1 in
      ap (λ (w : List ℕ). set (set w (64 + n) t.min) (2112 + n) t.max) (lay-put rs 0 x c c (length-components 0 is) h (omega arith))
      ∙ ap (λ (w : List ℕ). set w (2112 + n) t.max) (lay-put (joined rs 0 x) 1 t.min n (64 + n) (length-map (tracks_of is) min_of) k (omega arith))
      ∙ lay-put (joined (joined rs 0 x) 1 t.min) 2 t.max n (2112 + n) (length-map (tracks_of is) max_of) k (omega arith)
      ∙ sym (rw (More.track_words is t, More.track-tracks is t, More.track-names is t, map-append min_of (tracks_of is) (t ∷ []), map-append max_of (tracks_of is) (t ∷ [])))

  -- a track in one
  pub repeated-words : (r : Repeat) (t : Sizes) → length (tracks_of (is ++ (repeat r ∷ []))) < 2048
      → set (set (axis_words (with_template v is (inside r))) (64 + length (tracks_of (is ++ (repeat r ∷ [])))) t.min) (2112 + length (tracks_of (is ++ (repeat r ∷ [])))) t.max
      ≡ axis_words (with_template v is (inside (more_pieces r (track t))))
  unfolding words_with regions_of
  repeated-words r t k =
      let rs : List Region = regions_of (with_template v is (inside r)) [] in
      let ts : List Sizes = tracks_of (is ++ (repeat r ∷ [])) in
      let n : ℕ = length ts in
      ap (λ (w : List ℕ). set w (2112 + n) t.max) (lay-put rs 1 t.min n (64 + n) (length-map ts min_of) k (omega arith))
      ∙ lay-put (joined rs 1 t.min) 2 t.max n (2112 + n) (length-map ts max_of) k (omega arith)
      ∙ sym (rw (More.inner-track-tracks is r t, More.inner_track_names is r t, map-append min_of ts (t ∷ []), map-append max_of ts (t ∷ [])))

  -- the end of a repeat
  pub closed-words : (r : Repeat) → length (components_of is) < 64
      → set (axis_words (with_template v is (inside r))) (length (components_of is)) (component_word r.number r.kind (length (tracks_of is)) (length (tracks_in r.pieces)))
      ≡ axis_words (with_template v (is ++ (repeat r ∷ [])) none)
  unfolding words_with regions_of
  closed-words r h =
      lay-put (regions_of (with_template v is (inside r)) []) 0 (component_word r.number r.kind (length (tracks_of is)) (length (tracks_in r.pieces))) (length (components_of is)) (length (components_of is))
      (length-components 0 is) h (omega arith)
      ∙ sym (rw (More.repeat-words is r))

  -- a name outside a repeat
  pub name-words : (n : List ℕ) → length (names_of is) < 4096
      → set (axis_words (with_template v is none)) (4288 + length (names_of is)) (name_word (length (components_of is)) 0 (length (bytes_of name_of (names_of is))) (length n))
      ≡ axis_words (with_template v (is ++ (single (name n) ∷ [])) none)
  unfolding words_with regions_of
  name-words n h =
      let x : NameRecord = record { component = length (components_of is); place = 0; name = n } in
      let p : ℕ = length (bytes_of name_of (names_of is)) in
      lay-put (regions_of (with_template v is none) []) 5 (record_word x p) (length (names_of is)) (4288 + length (names_of is)) (length-words record_word name_of 0 (names_of is)) h (omega arith)
      ∙ sym (rw (More.name-words is n, More.name-tracks is n, More.name-names is n, words_more record_word name_of 0 (names_of is) x p (omega arith)))

  -- a name in one
  pub inner-name-words : (r : Repeat) (n : List ℕ) → length (names_of (is ++ (repeat r ∷ []))) < 4096
      → set (axis_words (with_template v is (inside r))) (4288 + length (names_of (is ++ (repeat r ∷ []))))
      (name_word (length (components_of is)) (length (tracks_in r.pieces) + 1) (length (bytes_of name_of (names_of (is ++ (repeat r ∷ []))))) (length n))
      ≡ axis_words (with_template v is (inside (more_pieces r (name n))))
  unfolding words_with regions_of
  inner-name-words r n h =
      let ns : List NameRecord = names_of (is ++ (repeat r ∷ [])) in
      let x : NameRecord = record { component = length (components_of is); place = length (tracks_in r.pieces) + 1; name = n } in
      let p : ℕ = length (bytes_of name_of ns) in
      lay-put (regions_of (with_template v is (inside r)) []) 5 (record_word x p) (length ns) (4288 + length ns) (length-words record_word name_of 0 ns) h (omega arith)
      ∙ sym (rw (More.inner_name_all is r n, More.inner_name_names is r n, words_more record_word name_of 0 ns x p (omega arith)))

-- the bytes after one name more
pub more_bytes : (ns : List NameRecord) (x : NameRecord) → length (bytes_of name_of ns) + length x.name ≤ 32768
    → sets (pad 32768 (bytes_of name_of ns)) (length (bytes_of name_of ns)) x.name ≡ pad 32768 (bytes_of name_of (ns ++ (x ∷ [])))
more_bytes ns x h = pad_puts 32768 x.name (bytes_of name_of ns) h ∙ ap (pad 32768) (sym (bytes-more record_word name_of ns x))

-- spare sizes
pub spare_words : (v : AxisView) (t : Sizes) → length v.spares < 64
    → set (set (axis_words v) (4160 + length v.spares) t.min) (4224 + length v.spares) t.max
    ≡ axis_words (record { line = v.line; template = v.template; unended = v.unended; spares = v.spares ++ (t ∷ []); negative = v.negative; positive = v.positive; marks = v.marks; areas = v.areas })
unfolding words_with regions_of
spare_words v t h =
    let rs : List Region = regions_of v [] in
    let n : ℕ = length v.spares in
    ap (λ (w : List ℕ). set w (4224 + n) t.max) (lay-put rs 3 t.min n (4160 + n) (length-map v.spares min_of) h (omega arith))
    ∙ lay-put (joined rs 3 t.min) 4 t.max n (4224 + n) (length-map v.spares max_of) h (omega arith)
    ∙ sym (rw (map-append min_of v.spares (t ∷ []), map-append max_of v.spares (t ∷ [])))
