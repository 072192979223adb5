-- The words of a view's components and names stand for its items, in order. Assumes nothing.
use Prim.Native.Nat.{ℕ, zero, suc, ◌+◌, ◌≤◌, ◌<◌}
use mathlib.Core.Path.{◌≡◌, refl, ap, ◌∙◌}
use mathlib.Core.Bool.{Bool, true, false, cond}
use mathlib.Core.List.{List, [], ◌∷◌, map, nil≢cons, cons≢nil, head-eq_of_cons-eq, tail-eq_of_cons-eq}
use native.Mathlib.Numerals.{add-one}
use native.Mathlib.Omega.{arith}
use borrow.Author.Tests.{le-leb, lt-leb}
use lib.Dec.{eqb}
use lib.ListN.{length, take, drop, length-append}
use Rattle.template_rules.specs.declared.RepetitionCount.TheVariants.{Single, Count, AutoFill, AutoFit}
use Rattle.template_rules.specs.Template.{component_of, count_of}
use Rattle.name_rules.specs.Template.{label, single as one, repeat as times}
use Rattle.name_entries.specs.Places.{name_place}
use Rattle.name_template.specs.Records.{stands, leading}
use Rattle.name_template.specs.Items.{name_of, reached, pieces_from, item_of as word_item, items_from, Ordered, InOrder}
use Rattle.name_template.specs.Lines.{FewTracks}
use Rattle.axis_tables.specs.View.{Piece, name, track, Repeat, Item, single, repeat, tracks_in, tracks_of, NameRecord, names_in, names_from}
use Rattle.template_rules.specs.Template.{component_word}
use Rattle.axis_tables.specs.Written.{components_from}
use Rattle.axis_tables.specs.Reads.{name_record_in}
use Rattle.axis_tables.proofs.Same.{positive}
use Rattle.axis_tables.proofs.Fits.{SmallRepeat, SmallItems}
use Rattle.axis_tables.proofs.Back.{word_back}
use Rattle.sheet_rules.specs.Sheet.{times_of, pieces_of, items_of}
use Rattle.sheet_end.proofs.Names.{later-names, inner-names, name-read, place_read, before_stands, later-leading, inner-before, inner-leading, first_words, last-words}

-- ---- a component's word
repeat_word : (r : Repeat) (n : ℕ) → SmallRepeat r → n ≤ 65535
    → component_of (component_word r.number r.kind n (length (tracks_in r.pieces)))
    ≡ record { count = count_of r.kind r.number; first = n; length = length (tracks_in r.pieces) }
repeat_word r n s h =
    word_back r.number r.kind n (length (tracks_in r.pieces)) s.number s.kinds h (omega (arith, s.tracks))
    ∙ rw (positive r.kind s.some)

single_word : (n : ℕ) → n ≤ 65535 → component_of (component_word 0 0 n 1) ≡ record { count = Single; first = n; length = 1 }
single_word n h = word_back 0 0 n 1 (omega arith) (omega arith) h (omega arith)

-- no component has more than 32 tracks
pub few-held : (is : List Item) (n : ℕ) → SmallItems is → n + length (tracks_of is) ≤ 65535 → FewTracks (components_from n is)
few-held [] n s h = tt
few-held (single (name m) ∷ is) n s h = few-held is n s h
few-held (single (track t) ∷ is) n s h = (rw (single_word n (omega arith)) (omega arith), few-held is (n + 1) s (omega arith))
few-held (repeat r ∷ is) n s h =
    let l = length-append (tracks_in r.pieces) (tracks_of is) in
    (rw (repeat_word r n s.0 (omega arith)) s.0.tracks, few-held is (n + length (tracks_in r.pieces)) s.1 (omega arith))

-- ---- the pieces of a repeat
module _ (store : List ℕ) where
  -- a name at a place reached is the next piece
  piece-named : (i n w : ℕ) (ws : List ℕ) → (name_place w).place ≤ i + 1 → pieces_from store i n (w ∷ ws) ≡ label (name_of store w) ∷ pieces_from store i n ws
  unfolding pieces_from reached
  piece-named i zero w ws h = refl
  piece-named i (suc n) w ws h = rw (le-leb (name_place w).place (i + 1) h)

  -- no name of a place further on is reached
  none-reached : (c i : ℕ) (ps : List Piece) (p : ℕ) (ws : List ℕ) → i + 1 < p → map (name_record_in store) ws ≡ names_in c p ps → reached i ws ≡ 0
  unfolding reached
  none-reached c i [] p [] h e = refl
  none-reached c i [] p (w ∷ ws) h e = absurd (cons≢nil e)
  none-reached c i (name m ∷ ps) p [] h e = refl
  none-reached c i (name m ∷ ps) p (w ∷ ws) h e =
      let q = place_read store w (record { component = c; place = p; name = m }) (head-eq_of_cons-eq e) in
      rw (lt-leb (name_place w).place (i + 1) (omega arith))
  none-reached c i (track t ∷ ps) p ws h e = none-reached c i ps (p + 1) ws (omega arith) e

  -- the words of a repeat's names, with its tracks, are its pieces, and they stand in order
  pieces-read : (c i : ℕ) (ps : List Piece) (ws : List ℕ) → map (name_record_in store) ws ≡ names_in c (i + 1) ps
      → pieces_from store i (length (tracks_in ps)) ws ≡ pieces_of ps
  unfolding pieces_from
  pieces-read c i [] [] e = refl
  pieces-read c i [] (w ∷ ws) e = absurd (cons≢nil e)
  pieces-read c i (name m ∷ ps) [] e = absurd (nil≢cons e)
  pieces-read c i (name m ∷ ps) (w ∷ ws) e =
      let x : NameRecord = record { component = c; place = i + 1; name = m } in
      let q = place_read store w x (head-eq_of_cons-eq e) in
      piece-named i (length (tracks_in ps)) w ws (omega arith)
      ∙ rw (name-read store w x (head-eq_of_cons-eq e), pieces-read c i ps ws (tail-eq_of_cons-eq e))
  pieces-read c i (track t ∷ ps) ws e =
      let z : i + 1 + 1 ≡ suc i + 1 = omega arith in
      let f : map (name_record_in store) ws ≡ names_in c (suc i + 1) ps = e ∙ ap (λ (p : ℕ). names_in c p ps) z in
      rw (none-reached c i ps (suc i + 1) ws (omega arith) f, pieces-read c (suc i) ps ws f)

  ordered-read : (c low last : ℕ) (ps : List Piece) (p : ℕ) (ws : List ℕ) → low ≤ p → p + length (tracks_in ps) ≤ last → map (name_record_in store) ws ≡ names_in c p ps
      → Ordered low last ws
  ordered-read c low last [] p [] h g e = tt
  ordered-read c low last [] p (w ∷ ws) h g e = absurd (cons≢nil e)
  ordered-read c low last (name m ∷ ps) p [] h g e = tt
  ordered-read c low last (name m ∷ ps) p (w ∷ ws) h g e =
      let q = place_read store w (record { component = c; place = p; name = m }) (head-eq_of_cons-eq e) in
      (omega arith, omega arith, ordered-read c (name_place w).place last ps p ws (omega arith) g (tail-eq_of_cons-eq e))
  ordered-read c low last (track t ∷ ps) p ws h g e = ordered-read c low last ps (p + 1) ws (omega arith) (omega arith) e

-- ---- the items
module _ (store : List ℕ) (repetitions : ℕ) where
  -- a repeat is written as often as its word says
  repeat_item : (r : Repeat) (t : ℕ) (ws : List ℕ) → SmallRepeat r
      → word_item store repetitions (count_of r.kind r.number) t ws ≡ times (times_of repetitions r) (pieces_from store 0 t ws)
  repeat_item r t ws s = rw (positive r.kind s.some) (go (eqb r.kind 1) (eqb r.kind 2))
    where
      go : (a b : Bool) → word_item store repetitions (cond a (Count r.number) (cond b AutoFill AutoFit)) t ws ≡ times (cond a r.number repetitions) (pieces_from store 0 t ws)
      go true b = refl
      go false true = refl
      go false false = refl

  -- a name before component k
  name-item : (k w : ℕ) (ws cs : List ℕ) → stands false k w ≡ true → items_from store repetitions k (w ∷ ws) cs ≡ one (label (name_of store w)) ∷ items_from store repetitions k ws cs
  unfolding items_from leading
  name-item k w ws [] e = rw e
  name-item k w ws (c ∷ cs) e = rw e

  -- the items from component k and track n on
  pub items-read : (is : List Item) (k n : ℕ) (ws : List ℕ) → SmallItems is → n + length (tracks_of is) ≤ 65535 → map (name_record_in store) ws ≡ names_from k is
      → items_from store repetitions k ws (components_from n is) ≡ items_of repetitions is
  unfolding items_from leading
  items-read [] k n [] s h e = refl
  items-read [] k n (w ∷ ws) s h e = absurd (cons≢nil e)
  items-read (single (name m) ∷ is) k n [] s h e = absurd (nil≢cons e)
  items-read (single (name m) ∷ is) k n (w ∷ ws) s h e =
      let x : NameRecord = record { component = k; place = 0; name = m } in
      name-item k w ws (components_from n is) (before_stands store k w x (head-eq_of_cons-eq e) refl refl)
      ∙ rw (name-read store w x (head-eq_of_cons-eq e), items-read is k n ws s h (tail-eq_of_cons-eq e))
  items-read (single (track t) ∷ is) k n ws s h e =
      let later = later-names k (k + 1) is (omega arith) in
      let f : map (name_record_in store) ws ≡ names_from (suc k) is = e ∙ ap (λ (c : ℕ). names_from c is) (add-one k) in
      rw (
        later-leading store false k ws (names_from (k + 1) is) e later,
        later-leading store true k ws (names_from (k + 1) is) e later,
        single_word n (omega arith),
        items-read is (suc k) (n + 1) ws s (omega arith) f,
      )
  items-read (repeat r ∷ is) k n ws s h e =
      let xs : List NameRecord = names_in k 1 r.pieces in
      let ys : List NameRecord = names_from (k + 1) is in
      let m : ℕ = length (tracks_in r.pieces) in
      let inner = inner-names k 1 r.pieces (omega arith) in
      let later = later-names k (k + 1) is (omega arith) in
      let l = length-append (tracks_in r.pieces) (tracks_of is) in
      let f : map (name_record_in store) (drop (length xs) ws) ≡ names_from (suc k) is = last-words store ws xs ys e ∙ ap (λ (c : ℕ). names_from c is) (add-one k) in
      rw (
        inner-before store k ws xs ys e inner later,
        inner-leading store k ws xs ys e inner later,
        repeat_word r n s.0 (omega arith),
        repeat_item r m (take (length xs) ws) s.0,
        pieces-read store k 0 r.pieces (take (length xs) ws) (first_words store ws xs ys e),
        items-read is (suc k) (n + m) (drop (length xs) ws) s.1 (omega arith) f,
      )

-- ---- their order
module _ (store : List ℕ) where
  -- a name before component k
  name-order : (k w : ℕ) (ws cs : List ℕ) → stands false k w ≡ true → InOrder k ws cs → InOrder k (w ∷ ws) cs
  unfolding InOrder leading
  name-order k w ws [] e h = tt
  name-order k w ws (c ∷ cs) e h = rw e h

  -- from component k and track n on
  pub order-read : (is : List Item) (k n : ℕ) (ws : List ℕ) → SmallItems is → n + length (tracks_of is) ≤ 65535 → map (name_record_in store) ws ≡ names_from k is
      → InOrder k ws (components_from n is)
  unfolding InOrder leading
  order-read [] k n ws s h e = tt
  order-read (single (name m) ∷ is) k n [] s h e = absurd (nil≢cons e)
  order-read (single (name m) ∷ is) k n (w ∷ ws) s h e =
      let x : NameRecord = record { component = k; place = 0; name = m } in
      name-order k w ws (components_from n is) (before_stands store k w x (head-eq_of_cons-eq e) refl refl) (order-read is k n ws s h (tail-eq_of_cons-eq e))
  order-read (single (track t) ∷ is) k n ws s h e =
      let later = later-names k (k + 1) is (omega arith) in
      let f : map (name_record_in store) ws ≡ names_from (suc k) is = e ∙ ap (λ (c : ℕ). names_from c is) (add-one k) in
      rw (later-leading store false k ws (names_from (k + 1) is) e later, later-leading store true k ws (names_from (k + 1) is) e later)
      (tt, order-read is (suc k) (n + 1) ws s (omega arith) f)
  order-read (repeat r ∷ is) k n ws s h e =
      let xs : List NameRecord = names_in k 1 r.pieces in
      let ys : List NameRecord = names_from (k + 1) is in
      let m : ℕ = length (tracks_in r.pieces) in
      let inner = inner-names k 1 r.pieces (omega arith) in
      let later = later-names k (k + 1) is (omega arith) in
      let l = length-append (tracks_in r.pieces) (tracks_of is) in
      let f : map (name_record_in store) (drop (length xs) ws) ≡ names_from (suc k) is = last-words store ws xs ys e ∙ ap (λ (c : ℕ). names_from c is) (add-one k) in
      rw (inner-before store k ws xs ys e inner later, inner-leading store k ws xs ys e inner later, repeat_word r n s.0 (omega arith)) (
        ordered-read store k 1 (m + 1) r.pieces 1 (take (length xs) ws) (omega arith) (omega arith) (first_words store ws xs ys e),
        order-read is (suc k) (n + m) (drop (length xs) ws) s.1 (omega arith) f,
      )
