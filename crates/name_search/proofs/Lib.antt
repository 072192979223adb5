-- Laws of the n-th line of a name.
pub mod Distances
pub mod Passes
pub mod Walks
pub mod Scanning
pub mod Marked
