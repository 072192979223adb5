-- What a row does to the table of areas, whatever it holds. It mirrors the code; proofs/Same.antt has that it follows picture_rules' step.
use Rattle.std.specs.Prelude.{ℕ, ◌+◌, List, [], ◌∷◌, Bool, true, false, cond, eqb, ltb, length}
use Rattle.panel_tables.specs.declared.Panel.{Panel}
use Rattle.panel_tables.specs.declared.AreaEdges.{AreaEdges}
use Rattle.panel_tables.specs.Areas.{raised}
use Rattle.picture_rules.specs.Picture.{Word, is_dots}
use Rattle.picture_rules.specs.Steps.{EqualRun, runs_of, run_box}
use Rattle.picture_areas.specs.Runs.{Drawn}
use Rattle.picture_areas.specs.Runs.{edges_of_box, InPicture, draw_in}

-- ---- runs

-- nothing mends a broken picture
abbrev pub with_broken : Bool → Drawn → Drawn
with_broken broken d = record { fault = d.fault; broken = cond broken true d.broken; panel = d.panel }

abbrev pub joined : Bool → InPicture → InPicture
joined broken x = record { answer = with_broken broken x.answer; words = x.words; bytes = x.bytes }

-- one run: dots draw nothing
unfoldable pub run_in : Word → AreaEdges → InPicture → InPicture
run_in n e x = cond (is_dots n) x (joined x.answer.broken (draw_in x.answer.panel x.words x.bytes n e))

-- the runs from a column on, until one is refused
unfoldable pub runs_in : ℕ → ℕ → List EqualRun → InPicture → InPicture
runs_in row column [] x = x
runs_in row column (y ∷ ys) x =
    let z : InPicture = run_in y.word (edges_of_box (run_box row column y.count)) x in
    cond (eqb z.answer.fault 0) (runs_in row (column + y.count) ys z) z

-- before the first run
abbrev pub started : Panel → List ℕ → List ℕ → InPicture
started p w b = record { answer = record { fault = 0; broken = false; panel = p }; words = w; bytes = b }

-- ---- a row

abbrev pub refused_row : ℕ → Panel → Drawn
refused_row fault p = record { fault = fault; broken = false; panel = p }

-- what is left of runs: a refusal of one has the panel as it came beside it
unfoldable pub settled : Panel → InPicture → InPicture
settled p x = record { answer = cond (eqb x.answer.fault 0) x.answer (refused_row x.answer.fault p); words = x.words; bytes = x.bytes }

-- the edges around the cells of a picture, of so many columns and rows
abbrev pub picture_edges : ℕ → ℕ → AreaEdges
picture_edges width row = record { rowstart = 1; rowend = row + 1; columnstart = 1; columnend = width + 1 }

-- both axes with the tracks between edges
abbrev pub spanned : Panel → AreaEdges → Panel
spanned p e = record { grid = p.grid; room = raised p.room e }

unfoldable pub counted_row : Panel → AreaEdges → Drawn → Drawn
counted_row p e d = cond (eqb d.fault 0) (record { fault = d.fault; broken = d.broken; panel = spanned d.panel e }) (refused_row d.fault p)

abbrev pub counted : Panel → AreaEdges → InPicture → InPicture
counted p e x = record { answer = counted_row p e x.answer; words = x.words; bytes = x.bytes }

-- 4 for more than 10,000 words or rows
unfoldable pub row_in : Panel → List ℕ → List ℕ → List Word → ℕ → InPicture
row_in p w b ws row =
    cond (ltb 10000 (length ws)) (record { answer = refused_row 4 p; words = w; bytes = b })
    (cond (ltb 10000 row) (record { answer = refused_row 4 p; words = w; bytes = b })
    (counted p (picture_edges (length ws) row) (runs_in row 1 (runs_of ws) (started p w b))))
