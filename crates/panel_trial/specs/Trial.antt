-- Document 02, Req 11: "Trying an axis, line and name answers all settled placements, or the refusal, exactly as entering it on a copy would",
-- whatever the state, the tables and the stores hold. "With cells, a trial names a packing, adds where its cells land, and gives 15 after the
-- entry's refusals."
use Rattle.std.specs.Prelude.{◌≡◌, List, ℕ, ℤ, Result, Ok, Err}
use Rattle.coordinates.specs.declared.refusal.Fault.{Fault}
use Rattle.coordinates.specs.Refusals.{no_refusal, refusal_of, number_of}
use Rattle.name_rules.specs.Css.{Bytes}
use Rattle.panel_tables.specs.declared.Grid.{Grid}
use Rattle.panel_tables.specs.declared.Panel.{Panel}
use Rattle.panel_rules.specs.Calls.{NameTables, EnteredName, enter_name}
use Rattle.panel_resolving.specs.Placements.{WrittenNumbers, placements_written}
use Rattle.panel_hits.specs.Settled.{Lent}
use Rattle.cell_placing.specs.declared.Packing.{Packing}
use Rattle.sheet_rules.specs.declared.LineFault.{LineFault}
use Rattle.panel_placing.specs.Cells.{CellsAnswered}
use Rattle.panel_trial.specs.declared.Trial.{Trial}
use Rattle.panel_trial.specs.declared.TrialCounts.{TrialCounts}

-- the runs that are lent for the answer: the numbers of the placements, and the words of where the cells land
pub record AnswerRuns : Type 0 where
  pub numbers : List ℤ
  pub lands : List ℕ

-- ---- the answers of a panel

-- all settled placements, as the run of placements from the first on writes them
abbrev pub all_placements : Grid → Lent → List ℤ → WrittenNumbers
all_placements g l numbers = placements_written g l.names l.areas l.placements 0 numbers

-- what is answered, and what the lent runs hold then: where the placing of the cells is refused, its refusal, and all is as it was; else all
-- settled placements, none of a panel without any, and where the cells land
pub data PanelAnswered (g : Grid) (l : Lent) (packing : Packing) (before after : AnswerRuns) (r : Result TrialCounts LineFault) : Type 0 where
  unplaced : (told : LineFault) → CellsAnswered g l packing before.lands after.lands (Err told) → after ≡ before → r ≡ Err told → PanelAnswered g l packing before after r
  settled : (cells : ℕ) → CellsAnswered g l packing before.lands after.lands (Ok cells) → after.numbers ≡ (all_placements g l before.numbers).numbers
      → r ≡ Ok (record { placements = (all_placements g l before.numbers).answer.count; cells = cells })
      → PanelAnswered g l packing before after r

-- ---- the answers of a trial

-- what `enter_name` answers and leaves
abbrev pub tried_entry : Panel → Lent → Trial → Bytes → EnteredName
tried_entry p l t name = enter_name p l.names t.axis t.line name

-- the tables with the entry; the areas and the placements are as they were
abbrev pub with_tables : Lent → NameTables → Lent
with_tables l names = record { names = names; areas = l.areas; placements = l.placements }

-- the refusal of the entry, at no line of the sheet, and all is as it was; else the answers of the panel with the entry
pub data TrialAnswered (p : Panel) (l : Lent) (t : Trial) (name : Bytes) (before after : AnswerRuns) (r : Result TrialCounts LineFault) : Type 0 where
  refused : (fault : Fault) → (tried_entry p l t name).answer.refusal ≡ refusal_of (number_of fault) → after ≡ before → r ≡ Err (record { fault = fault; line = 0 })
      → TrialAnswered p l t name before after r
  entered : (tried_entry p l t name).answer.refusal ≡ no_refusal
      → PanelAnswered (tried_entry p l t name).answer.panel.grid (with_tables l (tried_entry p l t name).tables) t.packing before after r
      → TrialAnswered p l t name before after r
