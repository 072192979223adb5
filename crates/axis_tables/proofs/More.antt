-- What a view lists after one line more. Assumes nothing.
use Prim.Native.Nat.{ℕ, ◌+◌}
use mathlib.Core.Path.{◌≡◌, sym, ap, ◌∙◌}
use mathlib.Core.List.{List, [], ◌∷◌, ◌++◌, append_assoc, append-nil}
use native.Mathlib.Omega.{arith}
use lib.ListN.{length, length-append}
use Rattle.axis_tables.specs.View.{Sizes, name, track, Repeat, Item, single, repeat, pieces_of, tracks_in, tracks_of, components_of, NameRecord, names_in, names_from, names_of, more_pieces}
use Rattle.template_rules.specs.Template.{component_word}
use Rattle.axis_tables.specs.Written.{components_from}
use Rattle.axis_tables.proofs.Joins.{length_more, tracks_in_lem, tracks_of_lem, components_of_lem, components_from_lem, names_in_lem, names_from_lem}

module _ (is : List Item) where
  pub tracks-more : (i : Item) → tracks_of (is ++ (i ∷ [])) ≡ tracks_of is ++ tracks_in (pieces_of i)
  tracks-more i = tracks_of_lem is (i ∷ []) ∙ ap (λ (l : List Sizes). tracks_of is ++ l) (append-nil (tracks_in (pieces_of i)))

  from_zero : (i : Item) → components_from 0 (is ++ (i ∷ [])) ≡ components_from 0 is ++ components_from (length (tracks_of is)) (i ∷ [])
  from_zero i =
      let e : 0 + length (tracks_of is) ≡ length (tracks_of is) = omega arith in
      components_from_lem 0 is (i ∷ []) ∙ ap (λ (k : ℕ). components_from 0 is ++ components_from k (i ∷ [])) e

  names-zero : (i : Item) → names_of (is ++ (i ∷ [])) ≡ names_of is ++ names_from (length (components_of is)) (i ∷ [])
  names-zero i =
      let e : 0 + length (components_of is) ≡ length (components_of is) = omega arith in
      names_from_lem 0 is (i ∷ []) ∙ ap (λ (k : ℕ). names_of is ++ names_from k (i ∷ [])) e

  -- ---- a name outside a repeat
  module _ (n : List ℕ) where
    pub name-components : components_of (is ++ (single (name n) ∷ [])) ≡ components_of is
    name-components = components_of_lem is (single (name n) ∷ []) ∙ append-nil (components_of is)

    pub name-words : components_from 0 (is ++ (single (name n) ∷ [])) ≡ components_from 0 is
    name-words = from_zero (single (name n)) ∙ append-nil (components_from 0 is)

    pub name-tracks : tracks_of (is ++ (single (name n) ∷ [])) ≡ tracks_of is
    name-tracks = tracks-more (single (name n)) ∙ append-nil (tracks_of is)

    pub name-names : names_of (is ++ (single (name n) ∷ [])) ≡ names_of is ++ (record { component = length (components_of is); place = 0; name = n } ∷ [])
    name-names = names-zero (single (name n))

  -- ---- a track outside a repeat
  module _ (t : Sizes) where
    pub track-components : length (components_of (is ++ (single (track t) ∷ []))) ≡ length (components_of is) + 1
    track-components = ap length (components_of_lem is (single (track t) ∷ [])) ∙ length-append (components_of is) (components_of (single (track t) ∷ []))

    pub track_words : components_from 0 (is ++ (single (track t) ∷ [])) ≡ components_from 0 is ++ (component_word 0 0 (length (tracks_of is)) 1 ∷ [])
    track_words = from_zero (single (track t))

    pub track-tracks : tracks_of (is ++ (single (track t) ∷ [])) ≡ tracks_of is ++ (t ∷ [])
    track-tracks = tracks-more (single (track t))

    pub track-names : names_of (is ++ (single (track t) ∷ [])) ≡ names_of is
    track-names = names-zero (single (track t)) ∙ append-nil (names_of is)

  -- ---- a repeat
  module _ (r : Repeat) where
    pub repeat-components : length (components_of (is ++ (repeat r ∷ []))) ≡ length (components_of is) + 1
    repeat-components = ap length (components_of_lem is (repeat r ∷ [])) ∙ length-append (components_of is) (components_of (repeat r ∷ []))

    pub repeat-words : components_from 0 (is ++ (repeat r ∷ []))
        ≡ components_from 0 is ++ (component_word r.number r.kind (length (tracks_of is)) (length (tracks_in r.pieces)) ∷ [])
    repeat-words = from_zero (repeat r)

    pub repeat-tracks : tracks_of (is ++ (repeat r ∷ [])) ≡ tracks_of is ++ tracks_in r.pieces
    repeat-tracks = tracks-more (repeat r)

    pub repeat_names : names_of (is ++ (repeat r ∷ [])) ≡ names_of is ++ names_in (length (components_of is)) 1 r.pieces
    repeat_names = names-zero (repeat r) ∙ ap (λ (l : List NameRecord). names_of is ++ l) (append-nil (names_in (length (components_of is)) 1 r.pieces))

    -- a track in it
    pub inner-track-tracks : (t : Sizes) → tracks_of (is ++ (repeat (more_pieces r (track t)) ∷ [])) ≡ tracks_of (is ++ (repeat r ∷ [])) ++ (t ∷ [])
    inner-track-tracks t =
        tracks-more (repeat (more_pieces r (track t)))
        ∙ ap (λ (l : List Sizes). tracks_of is ++ l) (tracks_in_lem r.pieces (track t ∷ []))
        ∙ sym (append_assoc (tracks_of is) (tracks_in r.pieces) (t ∷ []))
        ∙ ap (λ (l : List Sizes). l ++ (t ∷ [])) (sym repeat-tracks)

    pub inner-track-length : (t : Sizes) → length (tracks_in (r.pieces ++ (track t ∷ []))) ≡ length (tracks_in r.pieces) + 1
    inner-track-length t = ap length (tracks_in_lem r.pieces (track t ∷ [])) ∙ length_more (tracks_in r.pieces) t

    -- a name in it
    pub inner-name-tracks : (n : List ℕ) → tracks_in (r.pieces ++ (name n ∷ [])) ≡ tracks_in r.pieces
    inner-name-tracks n = tracks_in_lem r.pieces (name n ∷ []) ∙ append-nil (tracks_in r.pieces)

pub inner_name_all : (is : List Item) (r : Repeat) (n : List ℕ) → tracks_of (is ++ (repeat (more_pieces r (name n)) ∷ [])) ≡ tracks_of (is ++ (repeat r ∷ []))
inner_name_all is r n =
    tracks-more is (repeat (more_pieces r (name n)))
    ∙ ap (λ (l : List Sizes). tracks_of is ++ l) (inner-name-tracks is r n)
    ∙ sym (repeat-tracks is r)

-- names in a repeat after a track and after a name
pub inner_track_names : (is : List Item) (r : Repeat) (t : Sizes) → names_of (is ++ (repeat (more_pieces r (track t)) ∷ [])) ≡ names_of (is ++ (repeat r ∷ []))
inner_track_names is r t =
    let c : ℕ = length (components_of is) in
    repeat_names is (more_pieces r (track t))
    ∙ ap (λ (l : List NameRecord). names_of is ++ l) (names_in_lem c 1 r.pieces (track t ∷ []) ∙ append-nil (names_in c 1 r.pieces))
    ∙ sym (repeat_names is r)

pub inner_name_names : (is : List Item) (r : Repeat) (n : List ℕ)
    → names_of (is ++ (repeat (more_pieces r (name n)) ∷ []))
    ≡ names_of (is ++ (repeat r ∷ [])) ++ (record { component = length (components_of is); place = length (tracks_in r.pieces) + 1; name = n } ∷ [])
inner_name_names is r n =
    let c : ℕ = length (components_of is) in
    let m : ℕ = length (tracks_in r.pieces) in
    let e : 1 + m ≡ m + 1 = omega arith in
    repeat_names is (more_pieces r (name n))
    ∙ ap (λ (l : List NameRecord). names_of is ++ l)
    (names_in_lem c 1 r.pieces (name n ∷ []) ∙ ap (λ (k : ℕ). names_in c 1 r.pieces ++ (record { component = c; place = k; name = n } ∷ [])) e)
    ∙ sym (append_assoc (names_of is) (names_in c 1 r.pieces) (record { component = c; place = m + 1; name = n } ∷ []))
    ∙ ap (λ (l : List NameRecord). l ++ (record { component = c; place = m + 1; name = n } ∷ [])) (sym (repeat_names is r))

-- an empty repeat
pub empty_tracks : (is : List Item) (k n : ℕ) → tracks_of (is ++ (repeat (record { kind = k; number = n; pieces = [] }) ∷ [])) ≡ tracks_of is
empty_tracks is k n = repeat-tracks is (record { kind = k; number = n; pieces = [] }) ∙ append-nil (tracks_of is)

pub empty_names : (is : List Item) (k n : ℕ) → names_of (is ++ (repeat (record { kind = k; number = n; pieces = [] }) ∷ [])) ≡ names_of is
empty_names is k n = repeat_names is (record { kind = k; number = n; pieces = [] }) ∙ append-nil (names_of is)
