-- Where the name records of a view stand among their words. Assumes nothing.
use Prim.Native.Nat.{ℕ, ◌+◌, ◌<◌}
use mathlib.Core.Path.{◌≡◌, refl, ap, ◌∙◌}
use mathlib.Core.Bool.{Bool, true, false, ◌&&◌}
use mathlib.Core.List.{List, [], ◌∷◌, ◌++◌, map, nil≢cons, cons≢nil, head-eq_of_cons-eq, tail-eq_of_cons-eq}
use native.Mathlib.Omega.{arith}
use borrow.Author.Tests.{eq-eqb, ne_eqb, lt-ltb}
use lib.Dec.{eqb}
use lib.ListN.{length, take, drop}
use Rattle.name_entries.specs.Places.{name_place}
use Rattle.name_template.specs.Records.{stands, leading}
use Rattle.name_template.specs.Items.{name_of}
use Rattle.axis_tables.specs.View.{Piece, name, track, Item, single, repeat, NameRecord, names_in, names_from}
use Rattle.axis_tables.specs.Reads.{name_record_in}
use Rattle.axis_tables.proofs.Runs.{All, all_append}

-- a record inside component k, and one of a later component
abbrev pub Inner : ℕ → NameRecord → Type 0
Inner k x = (x.component ≡ k) × (0 < x.place)

abbrev pub Later : ℕ → NameRecord → Type 0
Later k x = k < x.component

-- the names of a repeat stand inside it, those of the items after component k in later ones
pub inner-names : (k p : ℕ) (ps : List Piece) → 0 < p → All (Inner k) (names_in k p ps)
inner-names k p [] h = tt
inner-names k p (name n ∷ ps) h = ((refl, h), inner-names k p ps h)
inner-names k p (track t ∷ ps) h = inner-names k (p + 1) ps (omega arith)

later-inside : (k c p : ℕ) (ps : List Piece) → k < c → All (Later k) (names_in c p ps)
later-inside k c p [] h = tt
later-inside k c p (name n ∷ ps) h = (h, later-inside k c p ps h)
later-inside k c p (track t ∷ ps) h = later-inside k c (p + 1) ps h

pub later-names : (k c : ℕ) (is : List Item) → k < c → All (Later k) (names_from c is)
later-names k c [] h = tt
later-names k c (single (name n) ∷ is) h = (h, later-names k c is h)
later-names k c (single (track t) ∷ is) h = later-names k (c + 1) is (omega arith)
later-names k c (repeat r ∷ is) h =
    all_append (Later k) (names_in c 1 r.pieces) (names_from (c + 1) is) (later-inside k c 1 r.pieces h) (later-names k (c + 1) is (omega arith))

-- ---- words that read as those records
module _ (store : List ℕ) where
  pub component-read : (w : ℕ) (x : NameRecord) → name_record_in store w ≡ x → (name_place w).component ≡ x.component
  unfolding name_place
  component-read w x e = ap (λ (n : NameRecord). n.component) e

  pub place_read : (w : ℕ) (x : NameRecord) → name_record_in store w ≡ x → (name_place w).place ≡ x.place
  unfolding name_place
  place_read w x e = ap (λ (n : NameRecord). n.place) e

  pub name-read : (w : ℕ) (x : NameRecord) → name_record_in store w ≡ x → name_of store w ≡ x.name
  unfolding name_place
  name-read w x e = ap (λ (n : NameRecord). n.name) e

  -- a word before component k, inside it, or of a later one
  module _ (k w : ℕ) (x : NameRecord) (e : name_record_in store w ≡ x) where
    pub before_stands : x.component ≡ k → x.place ≡ 0 → stands false k w ≡ true
    unfolding stands
    before_stands c p =
        rw (eq-eqb (name_place w).component k (component-read w x e ∙ c), eq-eqb (name_place w).place 0 (place_read w x e ∙ p))

    inner-stands : Inner k x → stands true k w ≡ true
    unfolding stands
    inner-stands h =
        let p : 0 < (name_place w).place = rw (place_read w x e) h.1 in
        rw (eq-eqb (name_place w).component k (component-read w x e ∙ h.0), lt-ltb 0 (name_place w).place p)

    inner-apart : Inner k x → stands false k w ≡ false
    unfolding stands
    inner-apart h =
        let q = place_read w x e in let g = h.1 in
        rw (ne_eqb (name_place w).place 0 (λ z. omega arith)) (go (eqb (name_place w).component k))
      where
        go : (t : Bool) → (t && false) ≡ false
        go true = refl
        go false = refl

    later-apart : (inside : Bool) → Later k x → stands inside k w ≡ false
    unfolding stands
    later-apart inside h =
        let q = component-read w x e in
        rw (ne_eqb (name_place w).component k (λ z. omega arith))

  -- no word of later components stands at k
  pub later-leading : (inside : Bool) (k : ℕ) (ws : List ℕ) (xs : List NameRecord) → map (name_record_in store) ws ≡ xs → All (Later k) xs → leading inside k ws ≡ 0
  unfolding leading
  later-leading inside k [] xs e h = refl
  later-leading inside k (w ∷ ws) [] e h = absurd (cons≢nil e)
  later-leading inside k (w ∷ ws) (x ∷ xs) e h = rw (later-apart k w x (head-eq_of_cons-eq e) inside h.0)

  -- the words of a repeat's names are those that lead inside it
  pub inner-before : (k : ℕ) (ws : List ℕ) (xs ys : List NameRecord) → map (name_record_in store) ws ≡ xs ++ ys → All (Inner k) xs → All (Later k) ys → leading false k ws ≡ 0
  unfolding leading
  inner-before k ws [] ys e h g = later-leading false k ws ys e g
  inner-before k [] (x ∷ xs) ys e h g = refl
  inner-before k (w ∷ ws) (x ∷ xs) ys e h g = rw (inner-apart k w x (head-eq_of_cons-eq e) h.0)

  pub inner-leading : (k : ℕ) (ws : List ℕ) (xs ys : List NameRecord) → map (name_record_in store) ws ≡ xs ++ ys → All (Inner k) xs → All (Later k) ys
      → leading true k ws ≡ length xs
  unfolding leading
  inner-leading k ws [] ys e h g = later-leading true k ws ys e g
  inner-leading k [] (x ∷ xs) ys e h g = absurd (nil≢cons e)
  inner-leading k (w ∷ ws) (x ∷ xs) ys e h g =
      rw (inner-stands k w x (head-eq_of_cons-eq e) h.0, inner-leading k ws xs ys (tail-eq_of_cons-eq e) h.1 g)

  -- words that read as two runs, cut after the first
  pub first_words : (ws : List ℕ) (xs ys : List NameRecord) → map (name_record_in store) ws ≡ xs ++ ys → map (name_record_in store) (take (length xs) ws) ≡ xs
  first_words ws [] ys e = refl
  first_words [] (x ∷ xs) ys e = absurd (nil≢cons e)
  first_words (w ∷ ws) (x ∷ xs) ys e = rw (head-eq_of_cons-eq e, first_words ws xs ys (tail-eq_of_cons-eq e))

  pub last-words : (ws : List ℕ) (xs ys : List NameRecord) → map (name_record_in store) ws ≡ xs ++ ys → map (name_record_in store) (drop (length xs) ws) ≡ ys
  last-words ws [] ys e = e
  last-words [] (x ∷ xs) ys e = absurd (nil≢cons e)
  last-words (w ∷ ws) (x ∷ xs) ys e = last-words ws xs ys (tail-eq_of_cons-eq e)
