-- Document 02, Req 10: where the cells of a panel land (Cells), which cells these are of an accepted sheet (Held), what an answer means (Theorem),
-- and what the code has on the way (Steps).
pub mod Cells
pub mod Theorem
pub mod Steps
pub mod Held
