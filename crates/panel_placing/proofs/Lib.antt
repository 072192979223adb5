-- Laws of the placing of a panel's cells: they are gathered (Collecting), a word says their sides (Spans), what the call answers (Answer),
-- what an answer means (Theorem), and which cells are placed of what a sheet gave (Held).
pub mod Collecting
pub mod Spans
pub mod Answer
pub mod Theorem
pub mod Held
