-- Laws of the search for lines by name.
pub mod Suffixes
pub mod Marking
pub mod Tables
pub mod Walk
pub mod HighestLine
pub mod Windows
