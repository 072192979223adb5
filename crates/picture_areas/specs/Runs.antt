-- What a run of a drawn name does to the table of areas, whatever it holds. proofs/Same.antt has that it follows picture_rules' step.
use Rattle.std.specs.Prelude.{ℕ, min, List, map, Bool, true, false, cond, not, ltb, length, set, Result, Ok, Err}
use Rattle.panel_tables.specs.declared.Panel.{Panel}
use Rattle.panel_tables.specs.declared.AreaEdges.{AreaEdges}
use Rattle.panel_tables.specs.View.{Area as TableArea}
use Rattle.panel_tables.specs.Areas.{edges_word, area_at, InAreas, with_area, put_area}
use Rattle.panel_tables.specs.Written.{area_words, area_store}
use Rattle.picture_rules.specs.Picture.{Box, PictureArea}
use Rattle.picture_rules.specs.Steps.{continues, drawn, fits}
use Rattle.coordinates.specs.Refusals.{number_of}
use Rattle.coordinates.specs.declared.refusal.Fault.{Fault}
use Rattle.picture_areas.specs.declared.draw.PictureAfter.{PictureAfter}
use Rattle.panel_tables.specs.Places.{area_index_in}

-- edges as the box of an area, and a box as edges
abbrev pub box_of : AreaEdges → Box
box_of e = record { rowstart = e.rowstart; rowend = e.rowend; columnstart = e.columnstart; columnend = e.columnend }

abbrev pub edges_of_box : Box → AreaEdges
edges_of_box b = record { rowstart = b.rowstart; rowend = b.rowend; columnstart = b.columnstart; columnend = b.columnend }

unfoldable pub run_continues : AreaEdges → AreaEdges → Bool
run_continues held run = continues (box_of held) (box_of run)

abbrev pub longer_edges : AreaEdges → AreaEdges → AreaEdges
longer_edges held run = record { rowstart = held.rowstart; rowend = run.rowend; columnstart = held.columnstart; columnend = held.columnend }

pub record InEdges : Type 0 where
  pub broken : Bool
  pub words : List ℕ

unfoldable pub grow_in : List ℕ → ℕ → AreaEdges → InEdges
grow_in words i run =
    cond (run_continues (area_at words i).edges run)
    (record { broken = false; words = set words i (edges_word (longer_edges (area_at words i).edges run)) })
    (record { broken = true; words = words })

-- the answer to a run: its refusal's number, 0 where there is none; whether it breaks the picture; and the panel after it, on a refusal as it came
pub record Drawn : Type 0 where
  pub fault : ℕ
  pub broken : Bool
  pub panel : Panel

-- the numbers and values of what a call on a panel answers
abbrev pub answered_drawn : Panel → Result PictureAfter Fault → Drawn
answered_drawn p (Ok after) = record { fault = 0; broken = after.broken; panel = after.panel }
answered_drawn p (Err fault) = record { fault = number_of fault; broken = false; panel = p }

pub record InPicture : Type 0 where
  pub answer : Drawn
  pub words : List ℕ
  pub bytes : List ℕ

abbrev pub of_grown : Panel → List ℕ → InEdges → InPicture
of_grown p bytes x = record { answer = record { fault = 0; broken = x.broken; panel = p }; words = x.words; bytes = bytes }

abbrev pub of_put : InAreas → InPicture
of_put x = record { answer = record { fault = x.answer.fault; broken = false; panel = x.answer.panel }; words = x.words; bytes = x.bytes }

unfoldable pub draw_in : Panel → List ℕ → List ℕ → List ℕ → AreaEdges → InPicture
draw_in p w b n run =
    cond (ltb (area_index_in p.grid.areas w b n) (min p.grid.areas 64))
    (of_grown p b (grow_in w (area_index_in p.grid.areas w b n) run))
    (of_put (put_area p w b n run))

-- ---- the same on the areas of a picture

abbrev pub table_area : PictureArea → TableArea
table_area a = record { name = a.name; edges = edges_of_box a.box }

abbrev pub table_of : List PictureArea → List TableArea
table_of l = map table_area l

-- the table after a run is that of the areas after it; 8 where they would be more than 64
unfoldable pub drawn_table : Panel → List PictureArea → PictureArea → InPicture
drawn_table p l run =
    cond (ltb 64 (length (drawn run l)))
    (record { answer = record { fault = 8; broken = false; panel = p }; words = area_words (table_of l); bytes = area_store (table_of l) })
    (record {
      answer = record {
        fault = 0;
        broken = not (fits run l);
        panel = cond (ltb (length l) (length (drawn run l))) (with_area p (edges_of_box run.box) (length run.name)) p;
      };
      words = area_words (table_of (drawn run l));
      bytes = area_store (table_of (drawn run l));
    })
