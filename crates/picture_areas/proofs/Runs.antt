-- What the steps of a run add up to. Assumes nothing.
use Prim.Native.Nat.{ℕ, ◌≤◌, ◌<◌, min}
use mathlib.Core.Path.{◌≡◌, refl, sym, ap, ◌∙◌}
use mathlib.Core.List.{List}
use mathlib.Core.Bool.{Bool, true, false, not}
use lib.ListN.{set}
use borrow.Author.Tests.{lt-ltb, le-ltb}
use Rattle.std.specs.Prelude.{Some, None, Result, Ok, Err}
use Rattle.coordinates.specs.declared.refusal.Fault.{Fault}
use Rattle.picture_areas.specs.declared.draw.PictureAfter.{PictureAfter}
use Rattle.panel_tables.specs.declared.Panel.{Panel}
use Rattle.panel_tables.specs.declared.AreaEdges.{AreaEdges}
use Rattle.panel_tables.specs.declared.AreaPlace.{AreaPlace}
use Rattle.panel_tables.specs.Areas.{edges_word, area_at, InAreas, answered_panel, put_area}
use Rattle.panel_tables.specs.Places.{area_index_in, area_place_in}
use Rattle.picture_areas.specs.Runs.{run_continues, longer_edges, InEdges, grow_in, of_grown, of_put, answered_drawn, draw_in}
use Rattle.panel_tables.proofs.Places.{known_place, no_place}

-- ---- an area that goes on

module _ (w : List ℕ) (i : ℕ) (run : AreaEdges) (place : AreaPlace) (t : Bool) where
  pub grown_so : (word : ℕ) (after : List ℕ) → place ≡ area_at w i → t ≡ run_continues place.edges run → t ≡ true
      → word ≡ edges_word (longer_edges place.edges run) → after ≡ set w i word → record { broken = not t; words = after } ≡ grow_in w i run
  unfolding grow_in
  grown_so word after e c h f g =
      let k : run_continues (area_at w i).edges run ≡ true = ap (λ (p : AreaPlace). run_continues p.edges run) (sym e) ∙ sym c ∙ h in
      ap (λ (u : Bool). record { broken = not u; words = after }) h
      ∙ rw k (ap (λ (l : List ℕ). record { broken = false; words = l }) (g ∙ ap (set w i) (f ∙ ap (λ (p : AreaPlace). edges_word (longer_edges p.edges run)) e)))

  pub grown_not : place ≡ area_at w i → t ≡ run_continues place.edges run → t ≡ false → record { broken = not t; words = w } ≡ grow_in w i run
  unfolding grow_in
  grown_not e c h =
      let k : run_continues (area_at w i).edges run ≡ false = ap (λ (p : AreaPlace). run_continues p.edges run) (sym e) ∙ sym c ∙ h in
      ap (λ (u : Bool). record { broken = not u; words = w }) h ∙ rw k

-- ---- a run

module _ (p : Panel) (w b n : List ℕ) (run : AreaEdges) (i held : ℕ) (found : i ≡ area_index_in p.grid.areas w b n) (all : held ≡ min p.grid.areas 64) where
  pub draw-known : i < held → (x : InEdges) → x ≡ grow_in w i run → of_grown p b x ≡ draw_in p w b n run
  unfolding draw_in
  draw-known h x e = rw (← found, ← all, lt-ltb i held h) (ap (of_grown p b) e)

  pub draw-new : held ≤ i → (x : InAreas) → x ≡ put_area p w b n run → of_put x ≡ draw_in p w b n run
  unfolding draw_in
  draw-new h x e = rw (← found, ← all, le-ltb i held h) (ap of_put e)

module _ (p : Panel) (w b n : List ℕ) (run : AreaEdges) where
  pub place_drawn : (i : ℕ) → area_place_in p.grid.areas w b n ≡ Some i → (x : InEdges) → x ≡ grow_in w i run → of_grown p b x ≡ draw_in p w b n run
  place_drawn i f x e =
      let k = known_place p.grid.areas w b n i f in
      draw-known p w b n run i (min p.grid.areas 64) k.0 refl (rw k.0 k.1) x e

  new_drawn : area_place_in p.grid.areas w b n ≡ None → (x : InAreas) → x ≡ put_area p w b n run → of_put x ≡ draw_in p w b n run
  new_drawn f x e = draw-new p w b n run (area_index_in p.grid.areas w b n) (min p.grid.areas 64) refl refl (no_place p.grid.areas w b n f) x e

  module _ (none : area_place_in p.grid.areas w b n ≡ None) (put : Result Panel Fault) (words bytes : List ℕ)
      (e : record { answer = answered_panel p put; words = words; bytes = bytes } ≡ put_area p w b n run) where
    pub draw_refused : (f : Fault) → put ≡ Err f → (r : Result PictureAfter Fault) → r ≡ Err f
        → record { answer = answered_drawn p r; words = words; bytes = bytes } ≡ draw_in p w b n run
    draw_refused f h r g =
        ap (λ (q : Result PictureAfter Fault). record { answer = answered_drawn p q; words = words; bytes = bytes }) g
        ∙ ap (λ (q : Result Panel Fault). of_put (record { answer = answered_panel p q; words = words; bytes = bytes })) (sym h)
        ∙ new_drawn none (record { answer = answered_panel p put; words = words; bytes = bytes }) e

    pub draw_put : (after : Panel) → put ≡ Ok after
        → record { answer = record { fault = 0; broken = false; panel = after }; words = words; bytes = bytes } ≡ draw_in p w b n run
    draw_put after h =
        ap (λ (q : Result Panel Fault). of_put (record { answer = answered_panel p q; words = words; bytes = bytes })) (sym h)
        ∙ new_drawn none (record { answer = answered_panel p put; words = words; bytes = bytes }) e
