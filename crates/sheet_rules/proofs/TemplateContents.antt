-- The names and the tracks of a template out of its lines; no other template is written by the same lines. Assumes nothing.
use Prim.Native.Nat.{ℕ, ◌+◌}
use mathlib.Core.Path.{◌≡◌, refl, sym, ap, ap₂, ◌∙◌}
use mathlib.Core.List.{List, [], ◌∷◌, ◌++◌, map, map-append, append_assoc}
use mathlib.Core.Bool.{Bool, true, false, cond, ◌&&◌, ◌||◌, true≢false}
use native.Mathlib.Omega.{arith}
use lib.ListN.{get_or}
use lib.Seq.{append_snoc}
use Rattle.coordinates.specs.declared.axis.Axis.{Axis}
use Rattle.text.specs.Split.{same}
use Rattle.text.proofs.Which.{same_equal}
use Rattle.sheet_forms.specs.Words.{at, kind_words}
use Rattle.sheet_forms.specs.Forms.{Kind, name, track, repeat, end, kind_number}
use Rattle.axis_tables.specs.View.{Sizes, Piece, name as a_name, track as a_track, Repeat as ARepeat, Item as AnItem, single, repeat as a_repeat, tracks_in, tracks_of, names_in, names_from, name_of}
use Rattle.sheet_rules.specs.Contents.{Line, those, is_of, is_on, lines_in, is_template, template_in, count_in, sizes_in, TemplateLine, piece, opening, closing, repeat_kind_in, template_line_in, template_lines}

-- ---- the names and the tracks

pub picked : {A : Type 0} → (TemplateLine → List A) → List TemplateLine → List A
picked f [] = []
picked f (t ∷ ts) = f t ++ picked f ts

picked_more : {A : Type 0} (f : TemplateLine → List A) (ts us : List TemplateLine) → picked f (ts ++ us) ≡ picked f ts ++ picked f us
unfolding picked
picked_more f [] us = refl
picked_more f (t ∷ ts) us = ap (λ l. f t ++ l) (picked_more f ts us) ∙ sym (append_assoc (f t) (picked f ts) (picked f us))

abbrev pub name_said : TemplateLine → List (List ℕ)
name_said (piece (a_name n)) = n ∷ []
name_said (piece (a_track t)) = []
name_said (opening k n) = []
name_said closing = []

abbrev pub track_said : TemplateLine → List Sizes
track_said (piece (a_name n)) = []
track_said (piece (a_track t)) = t ∷ []
track_said (opening k n) = []
track_said closing = []

-- those of a view

names_in_lem : (c p : ℕ) (ps : List Piece) → picked name_said (map piece ps ++ (closing ∷ [])) ≡ map name_of (names_in c p ps)
unfolding picked
names_in_lem c p [] = refl
names_in_lem c p (a_name n ∷ ps) = ap (λ (l : List (List ℕ)). n ∷ l) (names_in_lem c p ps)
names_in_lem c p (a_track t ∷ ps) = names_in_lem c (p + 1) ps

pub names_from_lem : (c : ℕ) (is : List AnItem) → picked name_said (template_lines is) ≡ map name_of (names_from c is)
unfolding picked template_lines
names_from_lem c [] = refl
names_from_lem c (single (a_name n) ∷ is) = ap (λ (l : List (List ℕ)). n ∷ l) (names_from_lem c is)
names_from_lem c (single (a_track t) ∷ is) = names_from_lem (c + 1) is
names_from_lem c (a_repeat r ∷ is) =
    picked_more name_said (map piece r.pieces ++ (closing ∷ [])) (template_lines is)
    ∙ ap₂ (λ (l m : List (List ℕ)). l ++ m) (names_in_lem c 1 r.pieces) (names_from_lem (c + 1) is)
    ∙ sym (map-append name_of (names_in c 1 r.pieces) (names_from (c + 1) is))

tracks_in_lem : (ps : List Piece) → picked track_said (map piece ps ++ (closing ∷ [])) ≡ tracks_in ps
unfolding picked
tracks_in_lem [] = refl
tracks_in_lem (a_name n ∷ ps) = tracks_in_lem ps
tracks_in_lem (a_track t ∷ ps) = ap (λ (l : List Sizes). t ∷ l) (tracks_in_lem ps)

pub tracks_of_lem : (is : List AnItem) → picked track_said (template_lines is) ≡ tracks_of is
unfolding picked template_lines
tracks_of_lem [] = refl
tracks_of_lem (single (a_name n) ∷ is) = tracks_of_lem is
tracks_of_lem (single (a_track t) ∷ is) = ap (λ (l : List Sizes). t ∷ l) (tracks_of_lem is)
tracks_of_lem (a_repeat r ∷ is) =
    picked_more track_said (map piece r.pieces ++ (closing ∷ [])) (template_lines is)
    ∙ ap₂ (λ (l m : List Sizes). l ++ m) (tracks_in_lem r.pieces) (tracks_of_lem is)

-- those of the lines of a kind

module _ {A : Type 0} (f : TemplateLine → List A) (g : Line → A) (k : Kind) (one : (l : Line) → cond (is_template l) (f (template_line_in l)) [] ≡ cond (is_of k l) (g l ∷ []) []) (a : Axis) where
  pub picked-lines : (ls : List Line) → picked f (map template_line_in (template_in a ls)) ≡ map g (lines_in k a ls)
  unfolding picked those
  picked-lines [] = refl
  picked-lines (l ∷ ls) = go (is_template l) (is_of k l) (is_on a l) (one l) (picked-lines ls)
    where
      go : (t u b : Bool) → cond t (f (template_line_in l)) [] ≡ cond u (g l ∷ []) [] → picked f (map template_line_in (template_in a ls)) ≡ map g (lines_in k a ls)
          → picked f (map template_line_in (cond (t && b) (l ∷ template_in a ls) (template_in a ls))) ≡ map g (cond (u && b) (l ∷ lines_in k a ls) (lines_in k a ls))
      go true true true e i = ap₂ (λ (m n : List A). m ++ n) e i
      go true false true e i = ap₂ (λ (m n : List A). m ++ n) e i
      go false true true e i = ap₂ (λ (m n : List A). m ++ n) e i
      go false false true e i = i
      go true true false e i = i
      go true false false e i = i
      go false true false e i = i
      go false false false e i = i

pub name-one : (l : Line) → cond (is_template l) (name_said (template_line_in l)) [] ≡ cond (is_of name l) (at l 2 ∷ []) []
name-one l = go (is_of name l) (is_of track l) (is_of repeat l) (is_of end l)
  where
    go : (n t r e : Bool)
        → cond (n || (t || (r || e))) (name_said (cond n (piece (a_name (at l 2))) (cond t (piece (a_track (sizes_in l))) (cond r (opening (repeat_kind_in (at l 2)) (count_in (at l 2))) closing)))) []
        ≡ cond n (at l 2 ∷ []) []
    go true t r e = refl
    go false true r e = refl
    go false false true e = refl
    go false false false true = refl
    go false false false false = refl

pub track-one : (l : Line) → cond (is_template l) (track_said (template_line_in l)) [] ≡ cond (is_of track l) (sizes_in l ∷ []) []
unfolding same
track-one l = go (is_of name l) (is_of track l) (is_of repeat l) (is_of end l) refl refl
  where
    go : (n t r e : Bool) → is_of name l ≡ n → is_of track l ≡ t
        → cond (n || (t || (r || e))) (track_said (cond n (piece (a_name (at l 2))) (cond t (piece (a_track (sizes_in l))) (cond r (opening (repeat_kind_in (at l 2)) (count_in (at l 2))) closing)))) []
        ≡ cond t (sizes_in l ∷ []) []
    go true true r e p q = absurd (true≢false (sym q ∙ ap (λ (f : List ℕ). same f (get_or kind_words (kind_number track) [])) (same_equal (at l 0) (get_or kind_words (kind_number name) []) p)))
    go true false r e p q = refl
    go false true r e p q = refl
    go false false true e p q = refl
    go false false false true p q = refl
    go false false false false p q = refl

-- ---- no other template

pieces_once : (ps qs : List Piece) (ts us : List TemplateLine) → map piece ps ++ (closing ∷ ts) ≡ map piece qs ++ (closing ∷ us) → (ps ≡ qs) × (ts ≡ us)
pieces_once [] [] ts us e = (refl, cc)
pieces_once [] (q ∷ qs) ts us e = absurd (let z : ◌≡◌ {A = ℕ} 0 1 = cc in omega arith)
pieces_once (p ∷ ps) [] ts us e = absurd (let z : ◌≡◌ {A = ℕ} 0 1 = cc in omega arith)
pieces_once (p ∷ ps) (q ∷ qs) ts us e =
    let h : p ≡ q = cc in
    let r = pieces_once ps qs ts us (cc) in
    (ap₂ (λ (x : Piece) (l : List Piece). x ∷ l) h r.0, r.1)

pub template_once : (is js : List AnItem) → template_lines is ≡ template_lines js → is ≡ js
unfolding template_lines
template_once [] [] e = refl
template_once [] (single q ∷ js) e = absurd (let z : ◌≡◌ {A = ℕ} 0 1 = cc in omega arith)
template_once [] (a_repeat q ∷ js) e = absurd (let z : ◌≡◌ {A = ℕ} 0 1 = cc in omega arith)
template_once (single p ∷ is) [] e = absurd (let z : ◌≡◌ {A = ℕ} 0 1 = cc in omega arith)
template_once (single p ∷ is) (single q ∷ js) e =
    let h : p ≡ q = cc in
    ap₂ (λ (x : Piece) (l : List AnItem). single x ∷ l) h (template_once is js (cc))
template_once (single p ∷ is) (a_repeat q ∷ js) e = absurd (let z : ◌≡◌ {A = ℕ} 0 1 = cc in omega arith)
template_once (a_repeat r ∷ is) [] e = absurd (let z : ◌≡◌ {A = ℕ} 0 1 = cc in omega arith)
template_once (a_repeat r ∷ is) (single q ∷ js) e = absurd (let z : ◌≡◌ {A = ℕ} 0 1 = cc in omega arith)
template_once (a_repeat r ∷ is) (a_repeat q ∷ js) e =
    let k : r.kind ≡ q.kind = cc in
    let n : r.number ≡ q.number = cc in
    let tails : (map piece r.pieces ++ (closing ∷ [])) ++ template_lines is ≡ (map piece q.pieces ++ (closing ∷ [])) ++ template_lines js = cc in
    let h = pieces_once r.pieces q.pieces (template_lines is) (template_lines js)
    (sym (append_snoc (map piece r.pieces) closing (template_lines is)) ∙ tails ∙ append_snoc (map piece q.pieces) closing (template_lines js)) in
    ap₂ (λ (x : ARepeat) (l : List AnItem). a_repeat x ∷ l) (λ i. record { kind = k i; number = n i; pieces = h.0 i }) (template_once is js h.1)
