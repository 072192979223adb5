-- Laws of placements: the lines that entries list (Counting, Ascending, Places, Listing), drawn areas
-- (DrawnAreas), the lines of a name in its group (Sought), the answer to a question (Finding), one answer (Placed), and runs (Numbers, Choosing, Running).
pub mod Counting
pub mod Ascending
pub mod Places
pub mod Listing
pub mod DrawnAreas
pub mod Sought
pub mod Finding
pub mod Grouping
pub mod Placed
pub mod Numbers
pub mod Choosing
pub mod GroupedRuns
