-- What is written reads back: the template, the tracks, the spare sizes and the names of an axis. Assumes nothing.
use Prim.Native.Nat.{ℕ, suc, ◌+◌, ◌/◌, ◌%◌, ◌≤◌, ◌<◌}
use mathlib.Core.Path.{◌≡◌, refl, sym, ap, ◌∙◌}
use mathlib.Core.List.{List, [], ◌∷◌, ◌++◌, map, append_assoc, append-nil}
use native.Mathlib.Omega.{arith}
use lib.ListN.{length, get_or, take, drop, length-map, length-append, get_or-map}
use lib.Seq.{get_or-drop, drop-drop, drop_at}
use Rattle.sizing.specs.declared.MinMax.{MinMax}
use Rattle.template_rules.specs.Template.{Component, count_of, length_of, component_of, track_at, tracks_from, with_tracks, template_of}
use Rattle.axis_tables.specs.Runs.{words_from, part_of}
use Rattle.axis_tables.specs.View.{Sizes, Piece, name, track, Item, single, repeat, Unended, none, inside, AxisView, sizes_of, tracks_in, tracks_of, components_of, NameRecord, name_of, names_in, names_from, names_of, written, axis_names, axis_bytes}
use Rattle.template_rules.specs.Template.{component_word}
use Rattle.name_entries.specs.Places.{name_word}
use Rattle.axis_tables.specs.Written.{components_from, min_of, max_of, record_word, axis_tracks, regions_of, words_with, names_store, state_of}
use Rattle.name_entries.specs.Places.{name_place}
use Rattle.axis_tables.specs.Reads.{name_record_in}
use Rattle.axis_tables.proofs.Lays.{lay_part, pad-is}
use Rattle.axis_tables.proofs.Runs.{length-words, All, all_append, run-back}
use Rattle.axis_tables.proofs.Joins.{length-components}
use Rattle.axis_tables.proofs.More
use Rattle.axis_tables.proofs.Same.{positive}
use Rattle.axis_tables.proofs.Fits.{Fits, SmallItems, SmallUnended, to_come, Short, few-tracks}
use Rattle.axis_tables.proofs.Kept.{small-more}

-- ---- a component's word
module _ (number kind first length : ℕ) (a : number ≤ 65535) (b : kind < 4) (c : first ≤ 65535) (d : length ≤ 65535) where
  word_number : component_word number kind first length % 65536 ≡ number
  unfolding component_word
  word_number = omega arith

  word-kind : component_word number kind first length / 65536 % 4 ≡ kind
  unfolding component_word
  word-kind = omega arith

  word_first : component_word number kind first length / 4294967296 % 65536 ≡ first
  unfolding component_word
  word_first = omega arith

  word-length : component_word number kind first length / 281474976710656 ≡ length
  unfolding component_word
  word-length = omega arith

  pub word_back : component_of (component_word number kind first length) ≡ record { count = count_of kind number; first = first; length = length_of kind length }
  unfolding component_of
  word_back = rw (word_number, word-kind, word_first, word-length)

-- ---- tracks from a place on
head_at : (ts : List Sizes) (n : ℕ) (u : Sizes) (rest : List Sizes) → drop n ts ≡ u ∷ rest → get_or ts n (record { min = 0; max = 0 }) ≡ u
head_at ts n u rest e =
    let d : Sizes = record { min = 0; max = 0 } in
    let z : n ≡ n + 0 = omega arith in
    ap (λ (k : ℕ). get_or ts k d) z ∙ sym (get_or-drop n ts 0 d) ∙ ap (λ (l : List Sizes). get_or l 0 d) e

next-at : (ts : List Sizes) (n : ℕ) (u : Sizes) (rest : List Sizes) → drop n ts ≡ u ∷ rest → drop (suc n) ts ≡ rest
next-at ts n u rest e =
    let z : suc n ≡ n + 1 = omega arith in
    ap (λ (k : ℕ). drop k ts) z ∙ sym (drop-drop 1 n ts) ∙ ap (drop 1) e

track-back : (ts : List Sizes) (n : ℕ) (u : Sizes) (rest : List Sizes) → drop n ts ≡ u ∷ rest → track_at (map min_of ts) (map max_of ts) n ≡ sizes_of u
track-back ts n u rest e =
    let d : Sizes = record { min = 0; max = 0 } in
    let a : get_or (map min_of ts) n 0 ≡ u.min = get_or-map min_of ts n d ∙ ap min_of (head_at ts n u rest e) in
    let b : get_or (map max_of ts) n 0 ≡ u.max = get_or-map max_of ts n d ∙ ap max_of (head_at ts n u rest e) in
    rw (a, b)

pub tracks-back : (ts us rest : List Sizes) (n : ℕ) → drop n ts ≡ us ++ rest → tracks_from (map min_of ts) (map max_of ts) n (length us) ≡ map sizes_of us
unfolding tracks_from
tracks-back ts [] rest n e = refl
tracks-back ts (u ∷ us) rest n e =
    ap (λ (m : MinMax). m ∷ tracks_from (map min_of ts) (map max_of ts) (suc n) (length us)) (track-back ts n u (us ++ rest) e)
    ∙ ap (λ (l : List MinMax). sizes_of u ∷ l) (tracks-back ts us rest (suc n) (next-at ts n u (us ++ rest) e))

-- ---- a template
component-back : (ts us rest : List Sizes) (n number kind : ℕ) → number ≤ 65535 → kind < 4 → n + length us ≤ 65535 → length_of kind (length us) ≡ length us
    → drop n ts ≡ us ++ rest
    → with_tracks (map min_of ts) (map max_of ts) (component_of (component_word number kind n (length us))) ≡ record { count = count_of kind number; tracks = map sizes_of us }
component-back ts us rest n number kind a b c l e =
    rw (word_back number kind n (length us) a b (omega arith) (omega arith), l, tracks-back ts us rest n e)

template_from : (ts rest : List Sizes) (is : List Item) (n : ℕ) → SmallItems is → n + length (tracks_of is) ≤ 65535 → drop n ts ≡ tracks_of is ++ rest
    → template_of (components_from n is) (map min_of ts) (map max_of ts) ≡ components_of is
unfolding template_of
template_from ts rest [] n s h e = refl
template_from ts rest (single (name m) ∷ is) n s h e = template_from ts rest is n s h e
template_from ts rest (single (track t) ∷ is) n s h e =
    let z : n + 1 ≡ suc n = omega arith in
    let d : drop (n + 1) ts ≡ tracks_of is ++ rest = ap (λ (k : ℕ). drop k ts) z ∙ next-at ts n t (tracks_of is ++ rest) e in
    ap (λ (c : Component). c ∷ template_of (components_from (n + 1) is) (map min_of ts) (map max_of ts))
    (component-back ts (t ∷ []) (tracks_of is ++ rest) n 0 0 (omega arith) (omega arith) (omega arith) refl e)
    ∙ ap (λ (l : List Component). record { count = count_of 0 0; tracks = sizes_of t ∷ [] } ∷ l) (template_from ts rest is (n + 1) s (omega arith) d)
template_from ts rest (repeat r ∷ is) n s h e =
    let us : List Sizes = tracks_in r.pieces in
    let k : n + length us + length (tracks_of is) ≤ 65535 = omega (arith, length-append us (tracks_of is)) in
    let d : drop n ts ≡ us ++ (tracks_of is ++ rest) = e ∙ append_assoc us (tracks_of is) rest in
    let q : drop (n + length us) ts ≡ tracks_of is ++ rest = sym (drop-drop (length us) n ts) ∙ ap (drop (length us)) d ∙ drop_at us (tracks_of is ++ rest) (length us) refl in
    let l : length_of r.kind (length us) ≡ length us = rw (positive r.kind s.0.some) in
    ap (λ (c : Component). c ∷ template_of (components_from (n + length us) is) (map min_of ts) (map max_of ts))
    (component-back ts us (tracks_of is ++ rest) n r.number r.kind s.0.number s.0.kinds (omega arith) l d)
    ∙ ap (λ (m : List Component). record { count = count_of r.kind r.number; tracks = map sizes_of us } ∷ m) (template_from ts rest is (n + length us) s.1 k q)

-- ---- names
pub record GoodName (n : NameRecord) : Type 0 where
  pub component : n.component < 256
  pub place : n.place < 256
  pub short : length n.name ≤ 32

module _ (component place offset length : ℕ) (a : component < 256) (b : place < 256) (c : offset < 65536) (d : length < 256) where
  name-component : name_word component place offset length % 256 ≡ component
  unfolding name_word
  name-component = omega arith

  name-place : name_word component place offset length / 256 % 256 ≡ place
  unfolding name_word
  name-place = omega arith

  name-offset : name_word component place offset length / 65536 % 65536 ≡ offset
  unfolding name_word
  name-offset = omega arith

  name-length : name_word component place offset length / 4294967296 % 256 ≡ length
  unfolding name_word
  name-length = omega arith

  pub place-back : name_place (name_word component place offset length) ≡ record { component = component; place = place; offset = offset; length = length }
  unfolding name_place
  place-back = rw (name-component, name-place, name-offset, name-length)

name_back : (store : List ℕ) (x : NameRecord) (at : ℕ) → GoodName x → at < 65536 → part_of store at (length x.name) ≡ x.name → name_record_in store (record_word x at) ≡ x
name_back store x at g h e =
    rw (place-back x.component x.place at (length x.name) g.component g.place h (omega (arith, g.short)), e)

good_in : (c p : ℕ) (ps : List Piece) → c < 256 → p + length (tracks_in ps) < 256 → Short (names_in c p ps) → All GoodName (names_in c p ps)
good_in c p [] h k s = tt
good_in c p (name n ∷ ps) h k s = (record { component = h; place = omega arith; short = s.0 }, good_in c p ps h k s.1)
good_in c p (track t ∷ ps) h k s = good_in c (p + 1) ps h (omega arith) s

short_left : (xs ys : List NameRecord) → Short (xs ++ ys) → Short xs
short_left [] ys s = tt
short_left (x ∷ xs) ys s = (s.0, short_left xs ys s.1)

short-right : (xs ys : List NameRecord) → Short (xs ++ ys) → Short ys
short-right [] ys s = s
short-right (x ∷ xs) ys s = short-right xs ys s.1

good_from : (c : ℕ) (is : List Item) → SmallItems is → c + length (components_of is) < 256 → Short (names_from c is) → All GoodName (names_from c is)
good_from c [] i h s = tt
good_from c (single (name n) ∷ is) i h s = (record { component = omega arith; place = omega arith; short = s.0 }, good_from c is i h s.1)
good_from c (single (track t) ∷ is) i h s = good_from (c + 1) is i (omega arith) s
good_from c (repeat r ∷ is) i h s =
    let xs : List NameRecord = names_in c 1 r.pieces in
    let ys : List NameRecord = names_from (c + 1) is in
    all_append GoodName xs ys (good_in c 1 r.pieces (omega arith) (omega (arith, i.0.tracks)) (short_left xs ys s)) (good_from (c + 1) is i.1 (omega arith) (short-right xs ys s))

-- ---- the laws: each region of the words, cut to its count
module _ (v : AxisView) (f : Fits v) (es : List ℕ) where
  few : length (axis_tracks v) ≤ 2048
  few = go v.template v.unended f.items f.unended f.components
    where
      go : (is : List Item) (u : Unended) → SmallItems is → SmallUnended u → length (components_of is) + to_come u ≤ 64 → length (tracks_of (written is u)) ≤ 2048
      go is none i s h = omega (arith, few-tracks is i)
      go is (inside r) i s h = omega (arith, few-tracks is i, s.tracks, ap length (More.repeat-tracks is r), length-append (tracks_of is) (tracks_in r.pieces))

  pub components-back : take (length (components_of v.template)) (drop 0 (words_with v es)) ≡ components_from 0 v.template
  unfolding words_with regions_of
  components-back = lay_part (regions_of v es) 0 (length (components_of v.template)) 0 (length-components 0 v.template) (omega (arith, f.components)) refl

  pub minimums-back : take (length (axis_tracks v)) (drop 64 (words_with v es)) ≡ map min_of (axis_tracks v)
  unfolding words_with regions_of
  minimums-back = lay_part (regions_of v es) 1 (length (axis_tracks v)) 64 (length-map (axis_tracks v) min_of) few refl

  pub maximums-back : take (length (axis_tracks v)) (drop 2112 (words_with v es)) ≡ map max_of (axis_tracks v)
  unfolding words_with regions_of
  maximums-back = lay_part (regions_of v es) 2 (length (axis_tracks v)) 2112 (length-map (axis_tracks v) max_of) few refl

  pub spare-minimums-back : take (length v.spares) (drop 4160 (words_with v es)) ≡ map min_of v.spares
  unfolding words_with regions_of
  spare-minimums-back = lay_part (regions_of v es) 3 (length v.spares) 4160 (length-map v.spares min_of) f.spares refl

  pub spare-maximums-back : take (length v.spares) (drop 4224 (words_with v es)) ≡ map max_of v.spares
  unfolding words_with regions_of
  spare-maximums-back = lay_part (regions_of v es) 4 (length v.spares) 4224 (length-map v.spares max_of) f.spares refl

  pub entries-back : length es ≤ 4096 → take (length es) (drop 8384 (words_with v es)) ≡ es
  unfolding words_with regions_of
  entries-back h = lay_part (regions_of v es) 6 (length es) 8384 refl h refl

  pub name-words-back : take (length (axis_names v)) (drop 4288 (words_with v es)) ≡ words_from record_word name_of 0 (axis_names v)
  unfolding words_with regions_of
  name-words-back = lay_part (regions_of v es) 5 (length (axis_names v)) 4288 (length-words record_word name_of 0 (axis_names v)) f.names refl

  -- the template that the components and tracks hold
  pub template-back :
      template_of (take (state_of v).room.template.components (drop 0 (words_with v es))) (take (state_of v).room.template.tracks (drop 64 (words_with v es))) (take (state_of v).room.template.tracks (drop 2112 (words_with v es)))
      ≡ components_of v.template
  template-back =
      rw (components-back, minimums-back, maximums-back)
      (go v.template v.unended f.items few)
    where
      go : (is : List Item) (u : Unended) → SmallItems is → length (tracks_of (written is u)) ≤ 2048
          → template_of (components_from 0 is) (map min_of (tracks_of (written is u))) (map max_of (tracks_of (written is u))) ≡ components_of is
      go is none i h = template_from (tracks_of is) [] is 0 i (omega arith) (sym (append-nil (tracks_of is)))
      go is (inside r) i h =
          template_from (tracks_of (is ++ (repeat r ∷ []))) (tracks_in r.pieces) is 0 i
          (omega (arith, ap length (More.repeat-tracks is r), length-append (tracks_of is) (tracks_in r.pieces))) (More.repeat-tracks is r)

  -- the names, in a store that begins with their bytes
  pub names-back : (rest : List ℕ) → map (name_record_in (axis_bytes v ++ rest)) (take (state_of v).room.names (drop 4288 (words_with v es))) ≡ axis_names v
  names-back rest =
      rw name-words-back
      (run-back record_word name_of (name_record_in (axis_bytes v ++ rest)) GoodName (axis_bytes v ++ rest) (name_back (axis_bytes v ++ rest)) (axis_names v) 0 rest
      (go v.template v.unended f.items f.unended f.components f.short) (omega (arith, f.bytes)) refl)
    where
      go : (is : List Item) (u : Unended) → SmallItems is → SmallUnended u → length (components_of is) + to_come u ≤ 64 → Short (names_of (written is u)) → All GoodName (names_of (written is u))
      go is none i s h k = good_from 0 is i (omega arith) k
      go is (inside r) i s h k = good_from 0 (is ++ (repeat r ∷ [])) (small-more is (repeat r) i (s, tt)) (omega (arith, More.repeat-components is r)) k

  pub names-held : map (name_record_in (names_store v)) (take (state_of v).room.names (drop 4288 (words_with v es))) ≡ axis_names v
  unfolding names_store
  names-held =
      ap (λ (s : List ℕ). map (name_record_in s) (take (state_of v).room.names (drop 4288 (words_with v es)))) (pad-is 32768 (axis_bytes v) f.bytes)
      ∙ names-back _
