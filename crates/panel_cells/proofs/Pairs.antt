-- Areas that share a cell: the test, and the first pair. Assumes nothing.
use Prim.Native.Nat.{ℕ, zero, suc, ◌+◌, ◌-◌, ◌≤◌, ◌<◌}
use mathlib.Core.Path.{◌≡◌, refl, sym, ap, ◌∙◌, subst}
use mathlib.Core.List.{List, [], ◌∷◌, ◌++◌}
use mathlib.Core.Bool.{Bool, true, false, cond, ◌&&◌, false≢true}
use mathlib.Core.Logic.{◌⊎◌, inl, inr, ◌↔◌}
use native.Mathlib.Omega.{arith}
use Rattle.std.proofs.lemmas.Bool.{and_parts}
use lib.Dec.{ltb}
use lib.ListN.{length, get_or, length-append}
use borrow.Author.Tests.{ltb-true, ltb-false, lt-ltb}
use Rattle.panel_tables.specs.declared.AreaEdges.{AreaEdges}
use Rattle.panel_tables.specs.View.{Area, no_area}
use Rattle.panel_cells.specs.Cells.{ShareCell, area_number, SharedBy, Pair, NoPair, FirstPair, CellsOnce}
use Rattle.panel_cells.specs.Steps.{meet, shares, sharing_from, first_sharing}

-- ---- the test says whether a cell lies in both

-- the later of two starts is before both ends
four : (a b c d : Bool) → (a && b) && (c && d) ≡ true → (a ≡ true) × (b ≡ true) × (c ≡ true) × (d ≡ true)
four true true true true e = (refl, refl, refl, refl)
four true true true false e = absurd (false≢true e)
four true true false d e = absurd (false≢true e)
four true false c d e = absurd (false≢true e)
four false b c d e = absurd (false≢true e)

larger : (a b : ℕ) → (n : ℕ) × (a ≤ n) × (b ≤ n) × ((m : ℕ) → a < m → b < m → n < m)
larger a b = go (ltb a b) refl
  where
    go : (t : Bool) → ltb a b ≡ t → (n : ℕ) × (a ≤ n) × (b ≤ n) × ((m : ℕ) → a < m → b < m → n < m)
    go true e = (b, omega (arith, ltb-true a b e), omega arith, λ m h k. k)
    go false e = (a, omega arith, omega (arith, ltb-false a b e), λ m h k. h)

pub shares_exactly : (a b : AreaEdges) → (shares a b ≡ true) ↔ ShareCell a b
unfolding shares
shares_exactly a b = (to, back)
  where
    to : shares a b ≡ true → ShareCell a b
    to e =
        let t = and_parts (meet (record { start = a.rowstart; end = a.rowend }) (record { start = b.rowstart; end = b.rowend })) (meet (record { start = a.columnstart; end = a.columnend }) (record { start = b.columnstart; end = b.columnend })) e in
        let r = four (ltb a.rowstart a.rowend) (ltb a.rowstart b.rowend) (ltb b.rowstart a.rowend) (ltb b.rowstart b.rowend) t.0 in
        let c = four (ltb a.columnstart a.columnend) (ltb a.columnstart b.columnend) (ltb b.columnstart a.columnend) (ltb b.columnstart b.columnend) t.1 in
        let row = larger a.rowstart b.rowstart in
        let column = larger a.columnstart b.columnstart in (
          row.0,
          column.0,
          record {
            top = row.1;
            bottom = row.3 a.rowend (ltb-true a.rowstart a.rowend r.0) (ltb-true b.rowstart a.rowend r.2);
            left = column.1;
            right = column.3 a.columnend (ltb-true a.columnstart a.columnend c.0) (ltb-true b.columnstart a.columnend c.2);
          },
          record {
            top = row.2;
            bottom = row.3 b.rowend (ltb-true a.rowstart b.rowend r.1) (ltb-true b.rowstart b.rowend r.3);
            left = column.2;
            right = column.3 b.columnend (ltb-true a.columnstart b.columnend c.1) (ltb-true b.columnstart b.columnend c.3);
          },
        )

    back : ShareCell a b → shares a b ≡ true
    back (row, column, p, q) =
        rw (
          lt-ltb a.rowstart a.rowend (omega (arith, p.top, p.bottom)),
          lt-ltb a.rowstart b.rowend (omega (arith, p.top, q.bottom)),
          lt-ltb b.rowstart a.rowend (omega (arith, q.top, p.bottom)),
          lt-ltb b.rowstart b.rowend (omega (arith, q.top, q.bottom)),
          lt-ltb a.columnstart a.columnend (omega (arith, p.left, p.right)),
          lt-ltb a.columnstart b.columnend (omega (arith, p.left, q.right)),
          lt-ltb b.columnstart a.columnend (omega (arith, q.left, p.right)),
          lt-ltb b.columnstart b.columnend (omega (arith, q.left, q.right)),
        )

-- where it says no, no cell does
apart : (a b : AreaEdges) → shares a b ≡ false → ShareCell a b → ⊥
apart a b e h = false≢true (sym e ∙ (shares_exactly a b).1 h)

-- ---- the search over a list

-- what the search from n on finds: nothing, or the first
data Search (n : ℕ) (e : AreaEdges) (list : List Area) (m : ℕ) : Type 0 where
  nothing : m ≡ 0 → ((i : ℕ) → i < length list → ShareCell (get_or list i no_area).edges e → ⊥) → Search n e list m
  something : (k : ℕ) → m ≡ n + k → k < length list → ShareCell (get_or list k no_area).edges e → ((i : ℕ) → i < k → ShareCell (get_or list i no_area).edges e → ⊥) → Search n e list m

search_on : (n : ℕ) (e : AreaEdges) (a : Area) (list : List Area) (m : ℕ) → shares a.edges e ≡ false → Search (n + 1) e list m → Search n e (a ∷ list) m
search_on n e a list m f (nothing z h) = nothing z every
  where
    every : (i : ℕ) → i < length (a ∷ list) → ShareCell (get_or (a ∷ list) i no_area).edges e → ⊥
    every zero w s = apart a.edges e f s
    every (suc i) w s = h i (omega arith) s
search_on n e a list m f (something k z w s h) = something (suc k) (z ∙ omega arith) (omega arith) s before
  where
    before : (i : ℕ) → i < suc k → ShareCell (get_or (a ∷ list) i no_area).edges e → ⊥
    before zero w s = apart a.edges e f s
    before (suc i) w s = h i (omega arith) s

searched : (n : ℕ) (e : AreaEdges) (list : List Area) → Search n e list (sharing_from n e list)
unfolding sharing_from
searched n e [] = nothing refl (λ i w s. omega arith)
searched n e (a ∷ list) = go (searched (n + 1) e list) (shares a.edges e) refl
  where
    go : Search (n + 1) e list (sharing_from (n + 1) e list) → (t : Bool) → shares a.edges e ≡ t → Search n e (a ∷ list) (cond t n (sharing_from (n + 1) e list))
    go rest true f = something 0 (omega arith) (omega arith) ((shares_exactly a.edges e).0 f) (λ i w s. omega arith)
    go rest false f = search_on n e a list (sharing_from (n + 1) e list) f rest

-- none is found exactly where no area shares a cell
pub sharing_none : (e : AreaEdges) (list : List Area) → first_sharing e list ≡ 0 → SharedBy list e → ⊥
sharing_none e list z (i, f, l, s) = go (searched 1 e list)
  where
    go : Search 1 e list (sharing_from 1 e list) → ⊥
    go (nothing y h) = h (i - 1) (omega arith) s
    go (something k y w t h) = omega arith

pub sharing_some : (e : AreaEdges) (list : List Area) → (first_sharing e list ≡ 0 → ⊥) → SharedBy list e
sharing_some e list z = go (searched 1 e list)
  where
    go : Search 1 e list (sharing_from 1 e list) → SharedBy list e
    go (nothing y h) = absurd (z y)
    go (something k y w t h) = (k + 1, omega arith, omega arith, subst (λ (i : ℕ). ShareCell (get_or list i no_area).edges e) (omega arith) t)

-- ---- one area more

get-before : (list more : List Area) (i : ℕ) → i < length list → get_or (list ++ more) i no_area ≡ get_or list i no_area
get-before [] more i h = absurd (omega arith)
get-before (a ∷ list) more zero h = refl
get-before (a ∷ list) more (suc i) h = get-before list more i (omega arith)

get-last : (list : List Area) (a : Area) → get_or (list ++ (a ∷ [])) (length list) no_area ≡ a
get-last [] a = refl
get-last (b ∷ list) a = get-last list a

abbrev edges_of : Area → AreaEdges
edges_of a = a.edges

number_before : (list more : List Area) (i : ℕ) → 1 ≤ i → i ≤ length list → area_number (list ++ more) i ≡ area_number list i
number_before list more i h k = ap edges_of (get-before list more (i - 1) (omega arith))

number_last : (list : List Area) (a : Area) → area_number (list ++ (a ∷ [])) (length list + 1) ≡ a.edges
number_last list a =
    let z : length list + 1 - 1 ≡ length list = omega arith in
    ap (λ (i : ℕ). (get_or (list ++ (a ∷ [])) i no_area).edges) z ∙ ap edges_of (get-last list a)

-- a pair of a list is one of every longer list, and the other way
pair_to : (list more : List Area) (i j : ℕ) → Pair list i j → Pair (list ++ more) i j
pair_to list more i j p =
    let a = number_before list more i p.first (omega (arith, p.order, p.last)) in
    let b = number_before list more j (omega (arith, p.first, p.order)) p.last in
    record {
      first = p.first;
      order = p.order;
      last = omega (arith, p.last, length-append list more);
      shared = subst (λ (e : AreaEdges). ShareCell e (area_number (list ++ more) j)) (sym a) (subst (ShareCell (area_number list i)) (sym b) p.shared);
    }

pair_back : (list more : List Area) (i j : ℕ) → j ≤ length list → Pair (list ++ more) i j → Pair list i j
pair_back list more i j h p =
    let a = number_before list more i p.first (omega (arith, p.order, h)) in
    let b = number_before list more j (omega (arith, p.first, p.order)) h in
    record {
      first = p.first;
      order = p.order;
      last = h;
      shared = subst (λ (e : AreaEdges). ShareCell e (area_number list j)) a (subst (ShareCell (area_number (list ++ more) i)) b p.shared);
    }

-- the first pair stays the first
pub pair_stays : (list more : List Area) (i j : ℕ) → FirstPair list i j → FirstPair (list ++ more) i j
pair_stays list more i j f =
    record {
      pair = pair_to list more i j f.pair;
      smallest_later = λ h k w p. f.smallest_later h k w (pair_back list more h k (omega (arith, w, f.pair.last)) p);
      smallest_earlier = λ h w p. f.smallest_earlier h w (pair_back list more h j f.pair.last p);
    }

module _ (list : List Area) (a : Area) (none : NoPair list) where
  abbrev longer : List Area
  longer = list ++ (a ∷ [])

  one-longer : length longer ≡ length list + 1
  one-longer = length-append list (a ∷ [])

  -- a pair of the longer list has the new area as its later one
  last-later : (i j : ℕ) → Pair longer i j → j ≡ length list + 1
  last-later i j p = go (ltb (length list) j) refl
    where
      go : (t : Bool) → ltb (length list) j ≡ t → j ≡ length list + 1
      go true e = omega (arith, ltb-true (length list) j e, p.last, one-longer)
      go false e = absurd (none i j (pair_back list (a ∷ []) i j (ltb-false (length list) j e) p))

  shared_last : (i j : ℕ) → Pair longer i j → ShareCell (get_or list (i - 1) no_area).edges a.edges
  shared_last i j p =
      let z = last-later i j p in
      let q = number_before list (a ∷ []) i p.first (omega (arith, p.order, z)) in
      let r : area_number longer j ≡ a.edges = ap (area_number longer) z ∙ number_last list a in
      subst (λ (e : AreaEdges). ShareCell e a.edges) q (subst (ShareCell (area_number longer i)) r p.shared)

  -- no area shares a cell with it
  pub none_more : first_sharing a.edges list ≡ 0 → NoPair longer
  none_more e i j p = go (searched 1 a.edges list)
    where
      go : Search 1 a.edges list (sharing_from 1 a.edges list) → ⊥
      go (nothing z h) = h (i - 1) (omega (arith, p.first, p.order, last-later i j p)) (shared_last i j p)
      go (something k z w s h) = omega arith

  -- the first that does, and it, are the first pair
  pub first_more : (first_sharing a.edges list ≡ 0 → ⊥) → FirstPair longer (first_sharing a.edges list) (length list + 1)
  first_more some = go (searched 1 a.edges list)
    where
      go : Search 1 a.edges list (sharing_from 1 a.edges list) → FirstPair longer (sharing_from 1 a.edges list) (length list + 1)
      go (nothing z h) = absurd (some z)
      go (something k z w s h) = subst (λ (n : ℕ). FirstPair longer n (length list + 1)) (sym z ∙ refl) found
        where
          here : area_number longer (1 + k) ≡ (get_or list k no_area).edges
          here = number_before list (a ∷ []) (1 + k) (omega arith) (omega arith) ∙ ap (λ (i : ℕ). (get_or list i no_area).edges) (omega arith)

          found : FirstPair longer (1 + k) (length list + 1)
          found =
              record {
                pair = record {
                  first = omega arith;
                  order = omega arith;
                  last = omega (arith, one-longer);
                  shared = subst (λ (e : AreaEdges). ShareCell e (area_number longer (length list + 1))) (sym here) (subst (ShareCell (get_or list k no_area).edges) (sym (number_last list a)) s);
                };
                smallest_later = λ i j l p. omega (arith, l, last-later i j p);
                smallest_earlier = λ i l p. h (i - 1) (omega (arith, l, p.first)) (shared_last i (length list + 1) p);
              }

-- ---- there is one first pair, and none exactly where every cell lies in at most one area

trichotomy : (a b : ℕ) → (a ≡ b) ⊎ ((a < b) ⊎ (b < a))
trichotomy a b = go (ltb a b) (ltb b a) refl refl
  where
    go : (t u : Bool) → ltb a b ≡ t → ltb b a ≡ u → (a ≡ b) ⊎ ((a < b) ⊎ (b < a))
    go true u e f = inr (inl (ltb-true a b e))
    go false true e f = inr (inr (ltb-true b a f))
    go false false e f = inl (omega (arith, ltb-false a b e, ltb-false b a f))

pub first_pair_once : (list : List Area) (h i j k : ℕ) → FirstPair list h j → FirstPair list i k → (h ≡ i) × (j ≡ k)
first_pair_once list h i j k f g = (earlier (trichotomy h i), later (trichotomy j k))
  where
    later : (j ≡ k) ⊎ ((j < k) ⊎ (k < j)) → j ≡ k
    later (inl e) = e
    later (inr (inl w)) = absurd (g.smallest_later h j w f.pair)
    later (inr (inr w)) = absurd (f.smallest_later i k w g.pair)

    earlier : (h ≡ i) ⊎ ((h < i) ⊎ (i < h)) → h ≡ i
    earlier (inl e) = e
    earlier (inr (inl w)) = absurd (g.smallest_earlier h w (subst (Pair list h) (later (trichotomy j k)) f.pair))
    earlier (inr (inr w)) = absurd (f.smallest_earlier i w (subst (Pair list i) (sym (later (trichotomy j k))) g.pair))

pub none_once : (list : List Area) → NoPair list ↔ CellsOnce list
none_once list = (to, back)
  where
    to : NoPair list → CellsOnce list
    to none i j row column f l g m p q = pick (trichotomy i j)
      where
        pick : (i ≡ j) ⊎ ((i < j) ⊎ (j < i)) → i ≡ j
        pick (inl e) = e
        pick (inr (inl w)) = absurd (none i j (record { first = f; order = w; last = m; shared = (row, column, p, q) }))
        pick (inr (inr w)) = absurd (none j i (record { first = g; order = w; last = l; shared = (row, column, q, p) }))

    back : CellsOnce list → NoPair list
    back once i j p =
        let (row, column, a, b) = p.shared in
        omega (arith, p.order, once i j row column p.first (omega (arith, p.order, p.last)) (omega (arith, p.first, p.order)) p.last a b)

pub none_empty : NoPair []
none_empty i j p = omega (arith, p.first, p.order, p.last)
