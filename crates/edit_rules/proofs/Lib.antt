-- Laws of edits, in the order in which they build on each other:
--   what is held after accepted edits: `edit_held`
pub mod Fits
pub mod Held
--   the lines of a sheet, and what comes after the last: `base_accepted`, `base_answer`, `base_held`
pub mod Stages
pub mod Bases
--   edits as lines of a sheet: `edits_as_sheet`, `edit_as_sheet`, `read_as_sheet`; the ranges of the panel: `edits_range`
pub mod Texts
pub mod EditRecords
pub mod Raised
pub mod Areas
pub mod Alike
pub mod Sorts
pub mod Taken
pub mod Appended
pub mod Theorem
pub mod Read
pub mod Ranges
