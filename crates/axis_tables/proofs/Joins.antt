-- What a view lists after one item or piece more. Assumes nothing.
use Prim.Native.Nat.{ℕ, suc, ◌+◌}
use mathlib.Core.Path.{◌≡◌, refl, sym, ap, ◌∙◌}
use mathlib.Core.List.{List, [], ◌∷◌, ◌++◌, append_assoc}
use native.Mathlib.Omega.{arith}
use lib.ListN.{length, length-append}
use Rattle.axis_tables.specs.View.{Sizes, Piece, name, track, Item, single, repeat, pieces_of, tracks_in, tracks_of, components_of, NameRecord, names_in, names_from}
use Rattle.axis_tables.specs.Written.{components_from}

pub length_more : {A : Type 0} (l : List A) (x : A) → length (l ++ (x ∷ [])) ≡ length l + 1
length_more l x = length-append l (x ∷ [])

next : {A : Type 0} {x : A} {l m : List A} → l ≡ m → (x ∷ l) ≡ (x ∷ m)
next {x = x} e = ap (λ r. x ∷ r) e

-- ---- tracks
pub tracks_in_lem : (ps qs : List Piece) → tracks_in (ps ++ qs) ≡ tracks_in ps ++ tracks_in qs
tracks_in_lem [] qs = refl
tracks_in_lem (name n ∷ ps) qs = tracks_in_lem ps qs
tracks_in_lem (track t ∷ ps) qs = ap (λ (l : List Sizes). t ∷ l) (tracks_in_lem ps qs)

pub tracks_of_lem : (is js : List Item) → tracks_of (is ++ js) ≡ tracks_of is ++ tracks_of js
tracks_of_lem [] js = refl
tracks_of_lem (i ∷ is) js =
    ap (λ (l : List Sizes). tracks_in (pieces_of i) ++ l) (tracks_of_lem is js)
    ∙ sym (append_assoc (tracks_in (pieces_of i)) (tracks_of is) (tracks_of js))

-- ---- components
pub components_of_lem : (is js : List Item) → components_of (is ++ js) ≡ components_of is ++ components_of js
components_of_lem [] js = refl
components_of_lem (single (name n) ∷ is) js = components_of_lem is js
components_of_lem (single (track t) ∷ is) js = next (components_of_lem is js)
components_of_lem (repeat r ∷ is) js = next (components_of_lem is js)

pub components_from_lem : (n : ℕ) (is js : List Item)
    → components_from n (is ++ js) ≡ components_from n is ++ components_from (n + length (tracks_of is)) js
components_from_lem n [] js =
    let e : n ≡ n + 0 = omega arith in
    ap (λ (k : ℕ). components_from k js) e
components_from_lem n (single (name m) ∷ is) js = components_from_lem n is js
components_from_lem n (single (track t) ∷ is) js =
    let e : n + 1 + length (tracks_of is) ≡ n + suc (length (tracks_of is)) = omega arith in
    next
    (components_from_lem (n + 1) is js ∙ ap (λ (k : ℕ). components_from (n + 1) is ++ components_from k js) e)
components_from_lem n (repeat r ∷ is) js =
    let m : ℕ = length (tracks_in r.pieces) in
    let e : n + m + length (tracks_of is) ≡ n + length (tracks_in r.pieces ++ tracks_of is) = omega (arith, length-append (tracks_in r.pieces) (tracks_of is)) in
    next
    (components_from_lem (n + m) is js ∙ ap (λ (k : ℕ). components_from (n + m) is ++ components_from k js) e)

-- as many words as components
pub length-components : (n : ℕ) (is : List Item) → length (components_from n is) ≡ length (components_of is)
length-components n [] = refl
length-components n (single (name m) ∷ is) = length-components n is
length-components n (single (track t) ∷ is) = ap suc (length-components (n + 1) is)
length-components n (repeat r ∷ is) = ap suc (length-components (n + length (tracks_in r.pieces)) is)

-- ---- names
pub names_in_lem : (c p : ℕ) (ps qs : List Piece) → names_in c p (ps ++ qs) ≡ names_in c p ps ++ names_in c (p + length (tracks_in ps)) qs
names_in_lem c p [] qs =
    let e : p ≡ p + 0 = omega arith in
    ap (λ (k : ℕ). names_in c k qs) e
names_in_lem c p (name n ∷ ps) qs = next (names_in_lem c p ps qs)
names_in_lem c p (track t ∷ ps) qs =
    let e : p + 1 + length (tracks_in ps) ≡ p + suc (length (tracks_in ps)) = omega arith in
    names_in_lem c (p + 1) ps qs ∙ ap (λ (k : ℕ). names_in c (p + 1) ps ++ names_in c k qs) e

pub names_from_lem : (c : ℕ) (is js : List Item) → names_from c (is ++ js) ≡ names_from c is ++ names_from (c + length (components_of is)) js
names_from_lem c [] js =
    let e : c ≡ c + 0 = omega arith in
    ap (λ (k : ℕ). names_from k js) e
names_from_lem c (single (name n) ∷ is) js = next (names_from_lem c is js)
names_from_lem c (single (track t) ∷ is) js =
    let e : c + 1 + length (components_of is) ≡ c + suc (length (components_of is)) = omega arith in
    names_from_lem (c + 1) is js ∙ ap (λ (k : ℕ). names_from (c + 1) is ++ names_from k js) e
names_from_lem c (repeat r ∷ is) js =
    let e : c + 1 + length (components_of is) ≡ c + suc (length (components_of is)) = omega arith in
    ap (λ (l : List NameRecord). names_in c 1 r.pieces ++ l)
    (names_from_lem (c + 1) is js ∙ ap (λ (k : ℕ). names_from (c + 1) is ++ names_from k js) e)
    ∙ sym (append_assoc (names_in c 1 r.pieces) (names_from (c + 1) is) (names_from (c + suc (length (components_of is))) js))
