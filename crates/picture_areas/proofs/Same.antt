-- On the table of a picture's areas a run does what picture_rules' step does to the areas. Assumes nothing.
use Prim.Native.Nat.{ℕ, zero, suc, ◌+◌, ◌≤◌, ◌<◌, min}
use mathlib.Core.Path.{◌≡◌, refl, sym, ap, ap₂, subst, ◌∙◌}
use mathlib.Core.List.{List, [], ◌∷◌, ◌++◌, map, map-append}
use mathlib.Core.Bool.{Bool, true, false, cond, not, true≢false}
use mathlib.Core.Logic.{inl, inr}
use native.Mathlib.Omega.{arith}
use lib.Dec.{leb}
use lib.ListN.{length, get_or, take, drop, set, replicate, length-append, length-map, drop_of_length-le}
use lib.Seq.{drop-cons, get_or-append_seam, set-append_left, set_at, take-set-lt}
use borrow.Author.Tests.{leb-true, leb-false, le-leb, lt-leb, lt-ltb, le-ltb}
use Rattle.text.specs.Split.{same, index}
use Rattle.text.proofs.Which.{same_equal, same_self}
use Rattle.axis_tables.specs.Lay.{pad, lay}
use Rattle.axis_tables.specs.Runs.{words_from, put_bytes}
use Rattle.name_entries.specs.Places.{name_word}
use Rattle.axis_tables.proofs.Lays.{length-pad}
use Rattle.axis_tables.proofs.Runs.{All, all_append, all_left, all_right, bytes-more}
use Rattle.panel_tables.specs.declared.Panel.{Panel}
use Rattle.panel_tables.specs.declared.AreaEdges.{AreaEdges}
use Rattle.panel_tables.specs.View.{no_area, edge_outside, edges_outside}
use Rattle.panel_tables.specs.View.{Area as TableArea}
use Rattle.panel_tables.specs.Areas.{edges_word, area_at, with_area, put, put_area}
use Rattle.panel_tables.specs.Written.{area_name_of, area_edges_word, area_name_word, area_bytes_of, area_regions, area_words, area_store}
use Rattle.panel_tables.proofs.Fits.{GoodArea, area-bytes}
use Rattle.panel_tables.proofs.Same.{area_words_lem, area_store_lem}
use Rattle.panel_tables.proofs.Back.{area-held}
use Rattle.picture_rules.specs.Picture.{PictureArea, Among, OtherName}
use Rattle.picture_rules.specs.Steps.{continues, longer, grown, drawn, fits}
use Rattle.picture_rules.proofs.Drawn.{Found, new, known, found}
use Rattle.panel_tables.specs.Places.{seek_in, area_index_in}
use Rattle.picture_areas.specs.Runs.{edges_of_box, run_continues, longer_edges, grow_in, InPicture, of_grown, of_put, draw_in, table_area, table_of, drawn_table}
use Rattle.picture_areas.proofs.Runs.{draw-known, draw-new}

-- ---- one area in the place of another of its name

pad-set : (n : ℕ) (l : List ℕ) (i x : ℕ) → i < length l → i < n → set (pad n l) i x ≡ pad n (set l i x)
unfolding pad
pad-set n l i x h k = sym (take-set-lt n (l ++ replicate n 0) i x k) ∙ ap (take n) (set-append_left l (replicate n 0) i x h)

module _ (x : TableArea) (e : AreaEdges) (back : List TableArea) where
  abbrev y : TableArea
  y = record { name = x.name; edges = e }

  names-words : (at : ℕ) (front : List TableArea) → words_from area_name_word area_name_of at (front ++ x ∷ back) ≡ words_from area_name_word area_name_of at (front ++ y ∷ back)
  names-words at [] = refl
  names-words at (z ∷ front) = ap (λ (l : List ℕ). area_name_word z at ∷ l) (names-words (at + length z.name) front)

  names-bytes : (front : List TableArea) → area_bytes_of (front ++ x ∷ back) ≡ area_bytes_of (front ++ y ∷ back)
  names-bytes [] = refl
  names-bytes (z ∷ front) = ap (λ (l : List ℕ). z.name ++ l) (names-bytes front)

  swap-store : (front : List TableArea) → area_store (front ++ x ∷ back) ≡ area_store (front ++ y ∷ back)
  unfolding area_store
  swap-store front = ap (pad 2048) (names-bytes front)

  swap-words : (front : List TableArea) → length front < 64 → set (area_words (front ++ x ∷ back)) (length front) (edges_word e) ≡ area_words (front ++ y ∷ back)
  unfolding area_words area_regions lay
  swap-words front h =
      let edges = map area_edges_word (front ++ x ∷ back) in
      let inside : length front < length edges = omega (arith, length-map (front ++ x ∷ back) area_edges_word, length-append front (x ∷ back)) in
      let put : set edges (length front) (edges_word e) ≡ map area_edges_word (front ++ y ∷ back) =
      ap (λ (l : List ℕ). set l (length front) (edges_word e)) (map-append area_edges_word front (x ∷ back))
      ∙ set_at (map area_edges_word front) (area_edges_word x) (map area_edges_word back) (edges_word e) (length front) (length-map front area_edges_word)
      ∙ sym (map-append area_edges_word front (y ∷ back)) in
      let rest = pad 64 (words_from area_name_word area_name_of 0 (front ++ x ∷ back)) ++ [] in
      set-append_left (pad 64 edges) rest (length front) (edges_word e) (omega (arith, length-pad 64 edges))
      ∙ ap (λ (l : List ℕ). l ++ rest) (pad-set 64 edges (length front) (edges_word e) inside h ∙ ap (pad 64) put)
      ∙ ap (λ (l : List ℕ). pad 64 (map area_edges_word (front ++ y ∷ back)) ++ (pad 64 l ++ [])) (names-words 0 front)

-- ---- the place of a name

names_of : List PictureArea → List (List ℕ)
names_of l = map area_name_of (table_of l)

other-same : (a run : PictureArea) → OtherName a run → same a.name run.name ≡ false
other-same a run o = go (same a.name run.name) refl
  where
    go : (t : Bool) → same a.name run.name ≡ t → same a.name run.name ≡ false
    go true e = absurd (o (same_equal a.name run.name e))
    go false e = e

index_new : (run : PictureArea) (l : List PictureArea) → ((x : PictureArea) → Among x l → OtherName x run) → index run.name (names_of l) ≡ length l
unfolding index names_of
index_new run [] o = refl
index_new run (a ∷ l) o = rw (other-same a run (o a (inl refl))) (ap suc (index_new run l (λ x m. o x (inr m))))

index_known : (run : PictureArea) (front : List PictureArea) (x : PictureArea) (back : List PictureArea) → ((z : PictureArea) → Among z front → OtherName z run) → x.name ≡ run.name
    → index run.name (names_of (front ++ x ∷ back)) ≡ length front
unfolding index names_of
index_known run [] x back o e = rw (e, same_self run.name)
index_known run (a ∷ front) x back o e = rw (other-same a run (o a (inl refl))) (ap suc (index_known run front x back (λ z m. o z (inr m)) e))

module _ (l : List TableArea) (good : All GoodArea l) (few : length l ≤ 64) (n : List ℕ) where
  seek-list : (left k : ℕ) → k + left ≡ length l → seek_in (area_words l) (area_store l) n k left ≡ k + index n (map area_name_of (drop k l))
  unfolding seek_in index
  seek-list zero k e = rw (drop_of_length-le l {i = k} (omega arith)) (omega arith)
  seek-list (suc left) k e =
      rw (drop-cons l k no_area (omega arith), ap (λ (a : TableArea). a.name) (area-held l good few k (omega arith)))
      (go (same (get_or l k no_area).name n) (seek-list left (suc k) (omega arith)))
    where
      go : (t : Bool) → seek_in (area_words l) (area_store l) n (suc k) left ≡ suc k + index n (map area_name_of (drop (suc k) l))
          → cond t k (seek_in (area_words l) (area_store l) n (suc k) left) ≡ k + cond t 0 (suc (index n (map area_name_of (drop (suc k) l))))
      go true h = omega arith
      go false h = omega arith

  pub index-list : (areas : ℕ) → areas ≡ length l → area_index_in areas (area_words l) (area_store l) n ≡ index n (map area_name_of l)
  index-list areas e =
      let z : min areas 64 ≡ length l = omega arith in
      ap (seek_in (area_words l) (area_store l) n 0) z ∙ seek-list (length l) 0 (omega arith) ∙ omega arith

-- ---- a new name

module _ (p : Panel) (l : List TableArea) (good : All GoodArea l) (a : TableArea) (fine : GoodArea a)
    (count : p.grid.areas ≡ length l) (used : p.room.areabytes ≡ length (area_bytes_of l)) where
  put-crowded : 64 ≤ length l → put_area p (area_words l) (area_store l) a.name a.edges ≡ record { answer = put 8 p; words = area_words l; bytes = area_store l }
  unfolding put_area
  put-crowded h = rw (fine.edges, le-ltb 32 (length a.name) fine.short, le-leb 64 p.grid.areas (omega arith))

  put-room : length l < 64 → put_area p (area_words l) (area_store l) a.name a.edges
      ≡ record { answer = put 0 (with_area p a.edges (length a.name)); words = area_words (l ++ (a ∷ [])); bytes = area_store (l ++ (a ∷ [])) }
  unfolding put_area
  put-room h =
      let k : length (area_bytes_of l) + length a.name ≤ 2048 = omega (arith, area-bytes l good, fine.short) in
      let r : p.room.areabytes + length a.name ≤ 2048 = omega (arith, used) in
      let w : set (set (area_words l) p.grid.areas (edges_word a.edges)) (64 + p.grid.areas) (name_word 0 0 p.room.areabytes (length a.name)) ≡ area_words (l ++ (a ∷ [])) =
      ap₂ (λ (n u : ℕ). set (set (area_words l) n (edges_word a.edges)) (64 + n) (name_word 0 0 u (length a.name))) count used ∙ area_words_lem l a h in
      let b : put_bytes (area_store l) p.room.areabytes a.name ≡ area_store (l ++ (a ∷ [])) = ap (λ (u : ℕ). put_bytes (area_store l) u a.name) used ∙ area_store_lem l a k in
      rw (fine.edges, le-ltb 32 (length a.name) fine.short, lt-leb 64 p.grid.areas (omega arith), le-ltb 2048 (p.room.areabytes + length a.name) r)
      (ap₂ (λ (x y : List ℕ). record { answer = put 0 (with_area p a.edges (length a.name)); words = x; bytes = y }) w b)

-- ---- a known one

module _ (front : List TableArea) (x : TableArea) (back : List TableArea) (good : All GoodArea (front ++ x ∷ back)) (few : length (front ++ x ∷ back) ≤ 64) (e : AreaEdges) where
  at-edges : (area_at (area_words (front ++ x ∷ back)) (length front)).edges ≡ x.edges
  at-edges =
      ap (λ (a : TableArea). a.edges)
      (area-held (front ++ x ∷ back) good few (length front) (omega (arith, length-append front (x ∷ back))) ∙ get_or-append_seam front x back no_area)

  grow-so : run_continues x.edges e ≡ true
      → grow_in (area_words (front ++ x ∷ back)) (length front) e ≡ record { broken = false; words = area_words (front ++ record { name = x.name; edges = longer_edges x.edges e } ∷ back) }
  unfolding grow_in
  grow-so h = rw (at-edges, h) (ap (λ (w : List ℕ). record { broken = false; words = w }) (swap-words x (longer_edges x.edges e) back front (omega (arith, few, length-append front (x ∷ back)))))

  grow-not : run_continues x.edges e ≡ false → grow_in (area_words (front ++ x ∷ back)) (length front) e ≡ record { broken = true; words = area_words (front ++ x ∷ back) }
  unfolding grow_in
  grow-not h = rw (at-edges, h)

abbrev grown_in : Panel → List PictureArea → PictureArea → List PictureArea → PictureArea → InPicture
grown_in p front x back run =
    record {
      answer = record { fault = 0; broken = not (continues x.box run.box); panel = p };
      words = area_words (table_of front ++ table_area (grown x run.box) ∷ table_of back);
      bytes = area_store (table_of front ++ table_area (grown x run.box) ∷ table_of back);
    }

module _ (p : Panel) (front : List PictureArea) (x : PictureArea) (back : List PictureArea) (run : PictureArea) where
  abbrev list : List TableArea
  list = table_of front ++ table_area x ∷ table_of back

  known_grown : All GoodArea list → length list ≤ 64 → p.grid.areas ≡ length list → ((z : PictureArea) → Among z front → OtherName z run) → x.name ≡ run.name
      → draw_in p (area_words list) (area_store list) run.name (edges_of_box run.box) ≡ grown_in p front x back run
  known_grown good few count o n = go (continues x.box run.box) refl
    where
      place : length (table_of front) ≡ area_index_in p.grid.areas (area_words list) (area_store list) run.name
      place =
          length-map front table_area
          ∙ sym (index-list list good few run.name p.grid.areas count
          ∙ ap (λ (l : List TableArea). index run.name (map area_name_of l)) (sym (map-append table_area front (x ∷ back)))
          ∙ named (index_known run front x back o n))
        where
          named : index run.name (names_of (front ++ x ∷ back)) ≡ length front → index run.name (map area_name_of (table_of (front ++ x ∷ back))) ≡ length front
          named = unfold names_of in λ h. h

      at : draw_in p (area_words list) (area_store list) run.name (edges_of_box run.box) ≡ of_grown p (area_store list) (grow_in (area_words list) (length (table_of front)) (edges_of_box run.box))
      at =
          sym (draw-known p (area_words list) (area_store list) run.name (edges_of_box run.box) (length (table_of front)) (min p.grid.areas 64) place refl
          (omega (arith, count, few, length-append (table_of front) (table_area x ∷ table_of back))) _ refl)

      meets : continues x.box run.box ≡ run_continues (edges_of_box x.box) (edges_of_box run.box)
      meets = unfold run_continues in refl

      go : (t : Bool) → continues x.box run.box ≡ t → draw_in p (area_words list) (area_store list) run.name (edges_of_box run.box) ≡ grown_in p front x back run
      go true h =
          at ∙ ap (of_grown p (area_store list)) (grow-so (table_of front) (table_area x) (table_of back) good few (edges_of_box run.box) (sym meets ∙ h))
          ∙ rw h (ap (λ (s : List ℕ). record {
            answer = record { fault = 0; broken = false; panel = p };
            words = area_words (table_of front ++ record { name = x.name; edges = longer_edges (edges_of_box x.box) (edges_of_box run.box) } ∷ table_of back);
            bytes = s;
          }) (swap-store (table_area x) (longer_edges (edges_of_box x.box) (edges_of_box run.box)) (table_of back) (table_of front)))
      go false h =
          at ∙ ap (of_grown p (area_store list)) (grow-not (table_of front) (table_area x) (table_of back) good few (edges_of_box run.box) (sym meets ∙ h)) ∙ rw h

-- ---- any run

new_same : (p : Panel) (l : List PictureArea) (run : PictureArea) → All GoodArea (table_of l) → length (table_of l) ≤ 64 → GoodArea (table_area run)
    → p.grid.areas ≡ length (table_of l) → p.room.areabytes ≡ length (area_bytes_of (table_of l))
    → ((x : PictureArea) → Among x l → OtherName x run) → drawn run l ≡ l ++ (run ∷ []) → fits run l ≡ true
    → draw_in p (area_words (table_of l)) (area_store (table_of l)) run.name (edges_of_box run.box) ≡ drawn_table p l run
unfolding drawn_table
new_same p l run good few fine count used other d f = at ∙ go (leb 64 (length (table_of l))) refl
  where
    longer-by-one : length (l ++ (run ∷ [])) ≡ length (table_of l) + 1
    longer-by-one = omega (arith, length-append l (run ∷ []), length-map l table_area)

    place : length (table_of l) ≡ area_index_in p.grid.areas (area_words (table_of l)) (area_store (table_of l)) run.name
    place = length-map l table_area ∙ sym (index-list (table_of l) good few run.name p.grid.areas count ∙ named (index_new run l other))
      where
        named : index run.name (names_of l) ≡ length l → index run.name (map area_name_of (table_of l)) ≡ length l
        named = unfold names_of in λ h. h

    at : draw_in p (area_words (table_of l)) (area_store (table_of l)) run.name (edges_of_box run.box) ≡ of_put (put_area p (area_words (table_of l)) (area_store (table_of l)) run.name (edges_of_box run.box))
    at =
        sym (draw-new p (area_words (table_of l)) (area_store (table_of l)) run.name (edges_of_box run.box) (length (table_of l)) (min p.grid.areas 64) place refl
        (omega (arith, count)) _ refl)

    go : (t : Bool) → leb 64 (length (table_of l)) ≡ t → of_put (put_area p (area_words (table_of l)) (area_store (table_of l)) run.name (edges_of_box run.box)) ≡ drawn_table p l run
    go true h =
        let k : 64 < length (l ++ (run ∷ [])) = omega (arith, longer-by-one, leb-true 64 (length (table_of l)) h) in
        ap of_put (put-crowded p (table_of l) good (table_area run) fine count used (leb-true 64 (length (table_of l)) h))
        ∙ rw (d, lt-ltb 64 (length (l ++ (run ∷ []))) k)
    go false h =
        let few-enough : length (l ++ (run ∷ [])) ≤ 64 = omega (arith, longer-by-one, leb-false 64 (length (table_of l)) h) in
        let more : length l < length (l ++ (run ∷ [])) = omega (arith, length-append l (run ∷ [])) in
        ap of_put (put-room p (table_of l) good (table_area run) fine count used (leb-false 64 (length (table_of l)) h))
        ∙ rw (d, f, le-ltb 64 (length (l ++ (run ∷ []))) few-enough, lt-ltb (length l) (length (l ++ (run ∷ []))) more, map-append table_area l (run ∷ []))

known_same : (p : Panel) (front : List PictureArea) (x : PictureArea) (back : List PictureArea) (run : PictureArea) (l : List PictureArea) → l ≡ front ++ x ∷ back
    → All GoodArea (table_of l) → length (table_of l) ≤ 64 → p.grid.areas ≡ length (table_of l)
    → ((z : PictureArea) → Among z front → OtherName z run) → x.name ≡ run.name
    → drawn run l ≡ front ++ grown x run.box ∷ back → fits run l ≡ continues x.box run.box
    → draw_in p (area_words (table_of l)) (area_store (table_of l)) run.name (edges_of_box run.box) ≡ drawn_table p l run
unfolding drawn_table
known_same p front x back run l s good few count o n d f =
    let m = ap table_of s ∙ map-append table_area front (x ∷ back) in
    let as_many : length (front ++ grown x run.box ∷ back) ≡ length l =
    omega (arith, length-append front (grown x run.box ∷ back), length-append front (x ∷ back), ap length s) in
    let few-enough : length (front ++ grown x run.box ∷ back) ≤ 64 = omega (arith, as_many, few, length-map l table_area) in
    ap (λ (t : List TableArea). draw_in p (area_words t) (area_store t) run.name (edges_of_box run.box)) m
    ∙ known_grown p front x back run (subst (All GoodArea) m good) (subst (λ (t : List TableArea). length t ≤ 64) m few) (count ∙ ap length m) o n
    ∙ rw (
      d,
      f,
      le-ltb 64 (length (front ++ grown x run.box ∷ back)) few-enough,
      le-ltb (length l) (length (front ++ grown x run.box ∷ back)) (omega (arith, as_many)),
      map-append table_area front (grown x run.box ∷ back),
    )

-- a panel whose table holds the areas of a picture, and has room for them
pub record TableFits (p : Panel) (l : List PictureArea) : Type 0 where
  pub good : All GoodArea (table_of l)
  pub few : length (table_of l) ≤ 64
  pub count : p.grid.areas ≡ length (table_of l)
  pub used : p.room.areabytes ≡ length (area_bytes_of (table_of l))

pub draw_same : (p : Panel) (l : List PictureArea) (run : PictureArea) → TableFits p l → GoodArea (table_area run)
    → draw_in p (area_words (table_of l)) (area_store (table_of l)) run.name (edges_of_box run.box) ≡ drawn_table p l run
draw_same p l run fit fine = go (found run l)
  where
    go : Found run l → draw_in p (area_words (table_of l)) (area_store (table_of l)) run.name (edges_of_box run.box) ≡ drawn_table p l run
    go (new other d f) = new_same p l run fit.good fit.few fine fit.count fit.used other d f
    go (known front x back s o n d f) = known_same p front x back run l s fit.good fit.few fit.count o n d f

-- ---- the table after a run fits as well

-- one edge of an area in the place of another
mixed : (a b c d e f : Bool) → cond a true (cond b true c) ≡ false → cond d true (cond e true f) ≡ false → cond a true (cond e true c) ≡ false
mixed true b c d e f h k = absurd (true≢false h)
mixed false true c d e f h k = absurd (true≢false h)
mixed false false c true e f h k = absurd (true≢false k)
mixed false false c false true f h k = absurd (true≢false k)
mixed false false c false false f h k = h

grown-good : (x run : PictureArea) → GoodArea (table_area x) → GoodArea (table_area run) → GoodArea (table_area (grown x run.box))
grown-good x run g f = record { short = g.short; edges = go (continues x.box run.box) }
  where
    go : (t : Bool) → edges_outside (edges_of_box (cond t (longer x.box run.box) x.box)) ≡ false
    go true =
        mixed (edge_outside x.box.rowstart) (edge_outside x.box.rowend) (cond (edge_outside x.box.columnstart) true (edge_outside x.box.columnend))
        (edge_outside run.box.rowstart) (edge_outside run.box.rowend) (cond (edge_outside run.box.columnstart) true (edge_outside run.box.columnend))
        g.edges f.edges
    go false = g.edges

new_fits : (p : Panel) (l : List PictureArea) (run : PictureArea) → TableFits p l → GoodArea (table_area run) → length (l ++ (run ∷ [])) ≤ 64
    → TableFits (with_area p (edges_of_box run.box) (length run.name)) (l ++ (run ∷ []))
new_fits p l run fit fine few =
    let m = map-append table_area l (run ∷ []) in
    record {
      good = subst (All GoodArea) (sym m) (all_append GoodArea (table_of l) (table_area run ∷ []) fit.good (fine, tt));
      few = omega (arith, few, length-map (l ++ (run ∷ [])) table_area);
      count = omega (arith, fit.count, ap length m, length-append (table_of l) (table_area run ∷ []));
      used = omega (arith, fit.used, ap (λ (t : List TableArea). length (area_bytes_of t)) m, ap length (bytes-more area_name_word area_name_of (table_of l) (table_area run)), length-append (area_bytes_of (table_of l)) run.name);
    }

known_fits : (p : Panel) (front : List PictureArea) (x : PictureArea) (back : List PictureArea) (run : PictureArea) → TableFits p (front ++ x ∷ back) → GoodArea (table_area run)
    → TableFits p (front ++ grown x run.box ∷ back)
known_fits p front x back run fit fine =
    let m = map-append table_area front (x ∷ back) in
    let k = map-append table_area front (grown x run.box ∷ back) in
    let good : All GoodArea (table_of front ++ table_area x ∷ table_of back) = subst (All GoodArea) m fit.good in
    let right = all_right GoodArea (table_of front) (table_area x ∷ table_of back) good in
    let same_length : length (table_of (front ++ grown x run.box ∷ back)) ≡ length (table_of (front ++ x ∷ back)) =
    omega (arith, ap length m, ap length k, length-append (table_of front) (table_area x ∷ table_of back), length-append (table_of front) (table_area (grown x run.box) ∷ table_of back)) in
    record {
      good = subst (All GoodArea) (sym k)
          (all_append GoodArea (table_of front) _ (all_left GoodArea (table_of front) (table_area x ∷ table_of back) good) (grown-good x run right.0 fine, right.1));
      few = omega (arith, fit.few, same_length);
      count = fit.count ∙ sym same_length;
      used = fit.used
          ∙ ap (λ (t : List TableArea). length (area_bytes_of t)) m
          ∙ ap length (names-bytes (table_area x) (table_area (grown x run.box)).edges (table_of back) (table_of front))
          ∙ sym (ap (λ (t : List TableArea). length (area_bytes_of t)) k);
    }

pub drawn-fits : (p : Panel) (l : List PictureArea) (run : PictureArea) → TableFits p l → GoodArea (table_area run) → length (drawn run l) ≤ 64
    → TableFits (drawn_table p l run).answer.panel (drawn run l)
unfolding drawn_table
drawn-fits p l run fit fine few = go (found run l)
  where
    go : Found run l → TableFits (drawn_table p l run).answer.panel (drawn run l)
    go (new other d f) =
        let h = subst (λ (t : List PictureArea). length t ≤ 64) d few in
        let more : length l < length (l ++ (run ∷ [])) = omega (arith, length-append l (run ∷ [])) in
        rw (d, le-ltb 64 (length (l ++ (run ∷ []))) h, lt-ltb (length l) (length (l ++ (run ∷ []))) more) (new_fits p l run fit fine h)
    go (known front x back s o n d f) =
        let h = subst (λ (t : List PictureArea). length t ≤ 64) d few in
        let as_many : length (front ++ grown x run.box ∷ back) ≤ length l =
        omega (arith, length-append front (grown x run.box ∷ back), length-append front (x ∷ back), ap length s) in
        rw (d, le-ltb 64 (length (front ++ grown x run.box ∷ back)) h, le-ltb (length l) (length (front ++ grown x run.box ∷ back)) as_many)
        (known_fits p front x back run (subst (TableFits p) s fit) fine)
