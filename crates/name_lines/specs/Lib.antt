-- What the contracts of the search for lines by name cite.
pub mod Suffixes
pub mod Areas
pub mod Marks
pub mod HighestLine
