pub mod Least
mod Found
pub mod Pixels
pub mod Constant
pub mod Counts
pub mod Asked
