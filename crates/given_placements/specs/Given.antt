-- Placements by argument (SHEET.md, Calls), whatever the state, the tables and the stores hold: they are put one after the other into tables of
-- zeros, as `place` lines are, and then a run of the placements of these tables is answered beside the names and areas that are lent.
use Rattle.std.specs.Prelude.{ℕ, suc, ◌+◌, ◌-◌, Bool, true, false, cond, List, [], ◌∷◌, eqb, ltb, length, take, drop, replicate, ℤ, Result, Ok, Err}
use Rattle.coordinates.specs.Axes.{axis_of}
use Rattle.coordinates.specs.Refusals.{number_of, crowded, short}
use Rattle.name_rules.specs.Css.{Bytes}
use Rattle.panel_tables.specs.declared.Grid.{Grid}
use Rattle.panel_tables.specs.declared.Panel.{Panel}
use Rattle.panel_tables.specs.View.{End}
use Rattle.panel_tables.specs.Areas.{InAreas}
use Rattle.panel_tables.specs.Placements.{end_named, put_item, put_placement}
use Rattle.panel_tables.specs.Written.{zero_panel}
use Rattle.panel_rules.specs.Calls.{NameTables, NamedWords}
use Rattle.panel_resolving.specs.Placements.{WrittenNumbers, placements_written}
use Rattle.given_placements.specs.declared.GivenPlacement.{GivenPlacement}
use Rattle.given_placements.specs.declared.GivenFault.{GivenFault}
use Rattle.given_placements.specs.Ends.{given_fault, used_end}

-- ---- names: of the bytes that are given each end has the next, start before end

abbrev pub own_bytes : GivenPlacement → ℕ
own_bytes g = g.startname + g.endname

abbrev pub names_after : GivenPlacement → Bytes → Bytes
names_after g names = drop (own_bytes g) names

-- whether so many bytes are fewer than the placements say
unfoldable pub names_missing : ℕ → List GivenPlacement → Bool
names_missing left [] = false
names_missing left (g ∷ gs) = cond (ltb left (own_bytes g)) true (names_missing (left - own_bytes g) gs)

-- ---- one placement

abbrev pub start_given : GivenPlacement → Bytes → End
start_given g names = end_named (record { kind = g.startkind; number = g.startnumber }) (take g.startname names)

abbrev pub end_given : GivenPlacement → Bytes → End
end_given g names = end_named (record { kind = g.endkind; number = g.endnumber }) (take g.endname (drop g.startname names))

abbrev pub fault_given : GivenPlacement → Bytes → ℕ
fault_given g names = given_fault g.axis (start_given g names) (end_given g names)

-- after those held, as a `place` line with the same ends puts it there
unfoldable pub put_given : Panel → List ℕ → List ℕ → GivenPlacement → Bytes → InAreas
put_given p w b g names =
    put_item (fault_given g names) p w b (put_placement p w b (axis_of g.axis) (used_end (start_given g names)) (used_end (end_given g names)))

-- ---- all of them

-- a refusal's number and the placement that has it, zeros where there is none; else how many there are, and their words and bytes
pub record GivenTables : Type 0 where
  pub number : ℕ
  pub index : ℕ
  pub placements : ℕ
  pub words : List ℕ
  pub bytes : List ℕ

abbrev pub tables_of : Result ℕ GivenFault → List ℕ → List ℕ → GivenTables
tables_of (Ok n) w b = record { number = 0; index = 0; placements = n; words = w; bytes = b }
tables_of (Err told) w b = record { number = number_of told.fault; index = told.index; placements = 0; words = w; bytes = b }

-- those that are left, from placement i on, put after those held
unfoldable pub put_from : Panel → List ℕ → List ℕ → Bytes → ℕ → List GivenPlacement → GivenTables
put_from p w b names i [] = record { number = 0; index = 0; placements = p.grid.placements; words = w; bytes = b }
put_from p w b names i (g ∷ gs) =
    let x : InAreas = put_given p w b g names in
    cond (eqb x.answer.fault 0)
    (put_from x.answer.panel x.words x.bytes (names_after g names) (suc i) gs)
    (record { number = x.answer.fault; index = i; placements = 0; words = x.words; bytes = x.bytes })

-- in tables of zeros
unfoldable pub put_all : Bytes → List GivenPlacement → GivenTables
put_all names gs = put_from zero_panel (replicate 1280 0) (replicate 32768 0) names 0 gs

-- ---- the answer

-- the refusal, the placement that has it and how many there are, with what the lent numbers hold
pub record GivenAnswer : Type 0 where
  pub number : ℕ
  pub index : ℕ
  pub count : ℕ

pub record GivenWritten : Type 0 where
  pub answer : GivenAnswer
  pub numbers : List ℤ

-- the numbers and values of what the call answers
abbrev pub answered_given : Result ℕ GivenFault → GivenAnswer
answered_given (Ok n) = record { number = 0; index = 0; count = n }
answered_given (Err told) = record { number = number_of told.fault; index = told.index; count = 0 }

-- of the call as a whole: 8 for more than 256, then 10 for names with fewer bytes than the placements say
unfoldable pub call_fault : Bytes → List GivenPlacement → ℕ
call_fault names gs = cond (ltb 256 (length gs)) crowded (cond (names_missing (length names) gs) short 0)

-- a refusal, and nothing written
abbrev pub refused_given : ℕ → ℕ → List ℤ → GivenWritten
refused_given number index lent = record { answer = record { number = number; index = index; count = 0 }; numbers = lent }

-- a panel's grid with so many placements in place of its own
abbrev pub given_grid : Grid → ℕ → Grid
given_grid g n = record { columns = g.columns; rows = g.rows; areas = g.areas; placements = n; cells = 0 }

-- what the run of them answers and writes
abbrev pub run_given : WrittenNumbers → GivenWritten
run_given w = record { answer = record { number = w.answer.number; index = 0; count = w.answer.count }; numbers = w.numbers }

abbrev pub given_beside : Grid → NameTables → NamedWords → GivenTables → List ℤ → GivenWritten
given_beside g t areas x lent =
    cond (eqb x.number 0)
    (run_given (placements_written (given_grid g x.placements) t areas (record { words = x.words; bytes = x.bytes }) 0 lent))
    (refused_given x.number x.index lent)

-- none given are none answered
unfoldable pub given_written : Grid → NameTables → NamedWords → List GivenPlacement → Bytes → List ℤ → GivenWritten
given_written g t areas gs names lent =
    cond (eqb (call_fault names gs) 0)
    (cond (eqb (length gs) 0) (refused_given 0 0 lent) (given_beside g t areas (put_all names gs) lent))
    (refused_given (call_fault names gs) 0 lent)
