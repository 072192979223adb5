-- The drawn areas that the tables hold are those of the view, as each axis sees them. Assumes nothing.
use Prim.Native.Nat.{ℕ, ◌+◌, ◌*◌, ◌/◌, ◌%◌, ◌≤◌, ◌<◌}
use mathlib.Core.Path.{◌≡◌, refl, sym, ap, ◌∙◌}
use mathlib.Core.List.{List, [], ◌∷◌, ◌++◌, map, append_assoc}
use mathlib.Core.Bool.{false}
use native.Mathlib.Omega.{arith}
use lib.ListN.{length, take, drop, length-map, length-append}
use lib.Seq.{take_at, drop_at, drop-drop}
use Rattle.coordinates.specs.declared.axis.Axis.{Axis}
use Rattle.coordinates.specs.declared.axis.Axis.TheVariants.{Column, Row}
use Rattle.name_rules.specs.Css as Css
use Rattle.name_rules.specs.Css.{start, end}
use Rattle.name_entries.specs.Entries.{entry_of, name_in}
use Rattle.name_lines.specs.Areas.{edge_in, area_of, areas_of}
use Rattle.axis_tables.specs.Runs.{words_from, part_of}
use Rattle.name_entries.specs.Places.{name_word}
use Rattle.name_entries.specs.Places.{name_place}
use Rattle.axis_tables.proofs.Lays.{lay_part, pad-is}
use Rattle.axis_tables.proofs.Runs.{All, length-words}
use Rattle.axis_tables.proofs.Back.{place-back}
use Rattle.panel_tables.specs.declared.AreaEdges.{AreaEdges}
use Rattle.panel_tables.specs.View.{Area, edges_outside}
use Rattle.panel_tables.specs.Areas.{edges_word, edges_of, edges_in}
use Rattle.panel_tables.specs.Written.{area_name_of, area_edges_word, area_name_word, area_bytes_of, area_regions, area_words, area_store}
use Rattle.panel_tables.proofs.Fits.{GoodArea, area-bytes}
use Rattle.panel_tables.proofs.Back.{edges_back}
use Rattle.panel_rules.specs.Views.{area_in, areas_in}

-- ---- edges: the fourth is cut from the upper half of the word
last-edge : (a b c d : ℕ) (w : ℕ) → w ≡ a % 65536 + b % 65536 * 65536 + c % 65536 * 4294967296 + d % 65536 * 281474976710656
    → w / 281474976710656 ≡ d → w / 4294967296 / 65536 % 65536 ≡ d
last-edge a b c d w e h = omega arith

module _ (e : AreaEdges) (good : edges_outside e ≡ false) where
  -- the edges as layer 4 reads them are those that were written
  edge-start : (a : Axis) → edge_in a start (edges_word e) ≡ (edges_in e a).start
  unfolding edges_of
  edge-start Column = ap (λ (x : AreaEdges). x.columnstart) (edges_back e good)
  edge-start Row = ap (λ (x : AreaEdges). x.rowstart) (edges_back e good)

  edge-end : (a : Axis) → edge_in a end (edges_word e) ≡ (edges_in e a).end
  unfolding edges_of edges_word
  edge-end Column = last-edge e.rowstart e.rowend e.columnstart e.columnend (edges_word e) refl (ap (λ (x : AreaEdges). x.columnend) (edges_back e good))
  edge-end Row = ap (λ (x : AreaEdges). x.rowend) (edges_back e good)

-- ---- a name, where its bytes lie at `at`
name_back : (store n : List ℕ) (at : ℕ) → at < 65536 → length n ≤ 32 → part_of store at (length n) ≡ n → name_in store (entry_of (name_word 0 0 at (length n))) ≡ n
unfolding entry_of name_place
name_back store n at h s e =
    let p = place-back 0 0 at (length n) (omega arith) (omega arith) h (omega arith) in
    ap (λ x. part_of store x.offset x.length) p ∙ e

-- an area is read back from its two words and its bytes
area-back : (a : Axis) (store : List ℕ) (x : Area) (at : ℕ) → GoodArea x → at < 65536 → part_of store at (length x.name) ≡ x.name
    → area_of a (area_edges_word x) (area_name_word x at) store ≡ area_in a x
area-back a store x at g h e = rw (name_back store x.name at h g.short e, edge-start x.edges g.edges a, edge-end x.edges g.edges a)

-- the areas whose names begin at `at`
areas_from : (a : Axis) (store : List ℕ) (list : List Area) (at : ℕ) (rest : List ℕ) → All GoodArea list → at + length (area_bytes_of list) < 65536
    → drop at store ≡ area_bytes_of list ++ rest
    → areas_of a (map area_edges_word list) (words_from area_name_word area_name_of at list) store ≡ areas_in a list
unfolding areas_of
areas_from a store [] at rest g h e = refl
areas_from a store (x ∷ list) at rest g h e =
    let n : ℕ = length x.name in
    let k : at + n + length (area_bytes_of list) < 65536 = omega (arith, length-append x.name (area_bytes_of list)) in
    let d : drop at store ≡ x.name ++ (area_bytes_of list ++ rest) = e ∙ append_assoc x.name (area_bytes_of list) rest in
    let p : part_of store at n ≡ x.name = ap (take n) d ∙ take_at x.name (area_bytes_of list ++ rest) n refl in
    let q : drop (at + n) store ≡ area_bytes_of list ++ rest = sym (drop-drop n at store) ∙ ap (drop n) d ∙ drop_at x.name (area_bytes_of list ++ rest) n refl in
    ap (λ (y : Css.Area). y ∷ areas_of a (map area_edges_word list) (words_from area_name_word area_name_of (at + n) list) store) (area-back a store x at g.0 (omega arith) p)
    ∙ ap (λ (l : List Css.Area). area_in a x ∷ l) (areas_from a store list (at + n) rest g.1 k q)

-- ---- the tables
module _ (list : List Area) (g : All GoodArea list) (few : length list ≤ 64) where
  -- the words of the edges, and of where the names lie
  edges-held : part_of (area_words list) 0 (length list) ≡ map area_edges_word list
  unfolding area_words area_regions
  edges-held = lay_part (area_regions list) 0 (length list) 0 (length-map list area_edges_word) few refl

  names-held : part_of (area_words list) 64 (length list) ≡ words_from area_name_word area_name_of 0 list
  unfolding area_words area_regions
  names-held = lay_part (area_regions list) 1 (length list) 64 (length-words area_name_word area_name_of 0 list) few refl

  -- all areas, as an axis sees them
  pub areas-held : (a : Axis) → areas_of a (part_of (area_words list) 0 (length list)) (part_of (area_words list) 64 (length list)) (area_store list) ≡ areas_in a list
  unfolding area_store
  areas-held a =
      rw (edges-held, names-held, pad-is 2048 (area_bytes_of list) (omega (arith, area-bytes list g)))
      (areas_from a _ list 0 _ g (omega (arith, area-bytes list g)) refl)
