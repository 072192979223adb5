-- Laws of the calls on a panel and of runs, in the order in which they build on each other:
--   what a call leaves, and a run in closed form: `accepted_sheet`, `after-held`, `run-held`, `run_refusal_lem`, `run_frame`
pub mod Fit
pub mod AxisEntry
pub mod OneCall
pub mod Sheets
pub mod Ends
pub mod Held
pub mod Frame
--   the ranges that the panel of every sheet keeps to: `sheet_range`, `areas-largest`
pub mod Numbers
pub mod SheetKeeps
pub mod AxisRanges
pub mod Within
pub mod Invariants
--   what the calls answer, read off the view and the entries: `placement-after` and the like; of a run: `run-placements` and the like
pub mod BookBack
pub mod AxisBack
pub mod AreasBack
pub mod PlacingBack
pub mod Answers
--   the book, CSS's counting, any order, tracks: `book-after`, `run-css`, `order_same`, `track-after`
pub mod Counted
pub mod Book
pub mod Run
pub mod Order
pub mod Tracks
pub mod Runs
pub mod Invalid
--   the halves of cells: `settled_as_places`
pub mod Cells
--   one more name: `one-more-name`
pub mod OneMoreName
pub mod RegularTest
pub mod Worked
--   columns alone: `columns_alone`
pub mod AloneExamples
pub mod ColumnView
pub mod Alone
pub mod ColumnCalls
pub mod ColumnAnswers
pub mod ColumnsAlone
pub mod Lent
