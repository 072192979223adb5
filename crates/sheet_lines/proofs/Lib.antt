-- Laws of a line that is cut once.
pub mod Cuts
pub mod Rows
pub mod NoKind
