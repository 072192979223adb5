-- A row on the table of a picture's areas. proofs/Same.antt has when a row is taken and when it is refused.
use Rattle.std.specs.Prelude.{ℕ, ◌+◌, ◌≡◌, List, [], ◌∷◌, ◌++◌, true, cond, length}
use Rattle.panel_tables.specs.declared.Panel.{Panel}
use Rattle.panel_tables.specs.Areas.{raised}
use Rattle.panel_tables.specs.Written.{area_bytes_of, area_words, area_store}
use Rattle.picture_rules.specs.Picture.{Word, Picture, PictureArea}
use Rattle.picture_rules.specs.Steps.{PictureState, row_step, taken_of}
use Rattle.picture_areas.specs.Runs.{InPicture, table_of}
use Rattle.picture_rows.specs.Steps.{picture_edges}

-- a panel with the areas of a picture, and on both axes at least the picture's tracks: "the rows and their width also raise the explicit counts"
abbrev pub pictured : Panel → List PictureArea → ℕ → ℕ → Panel
pictured p l width row =
    record {
      grid = record { columns = p.grid.columns; rows = p.grid.rows; areas = length (table_of l); placements = p.grid.placements; cells = p.grid.cells };
      room = record {
        columns = (raised p.room (picture_edges width row)).columns;
        rows = (raised p.room (picture_edges width row)).rows;
        areabytes = length (area_bytes_of (table_of l));
        placementbytes = p.room.placementbytes;
      };
    }

-- what one row more leaves where the table held the areas of the state s: the table of the areas of the state t after it
pub record Taken (p : Panel) (s t : PictureState) (width row : ℕ) (x : InPicture) : Type 0 where
  pub fault : x.answer.fault ≡ 0
  -- the picture is broken after the row exactly if it was before, or the row breaks it
  pub broken : t.broken ≡ cond x.answer.broken true s.broken
  pub panel : x.answer.panel ≡ pictured p t.areas width row
  pub words : x.words ≡ area_words (table_of t.areas)
  pub bytes : x.bytes ≡ area_store (table_of t.areas)

abbrev pub RowTaken : Panel → PictureState → List Word → InPicture → Type 0
RowTaken p s ws x = Taken p s (row_step s ws) (length ws) (s.rows + 1) x

-- of the rows of a picture so far
abbrev pub PictureTaken : Panel → Picture → List Word → InPicture → Type 0
PictureTaken p q ws x = Taken p (taken_of q) (taken_of (q ++ (ws ∷ []))) (length ws) (length q + 1) x
