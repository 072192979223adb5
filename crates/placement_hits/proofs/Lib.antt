-- Laws of the two lists of placements.
pub mod Converted
pub mod Listing
pub mod Chunks
pub mod GridLines
pub mod Theorem
