-- Laws of free cells.
pub mod Cells
pub mod Places
pub mod Words
pub mod Unique
