-- What the contracts of the n-th line of a name cite.
pub mod Sought
pub mod Nearest
pub mod Scans
pub mod Marked
