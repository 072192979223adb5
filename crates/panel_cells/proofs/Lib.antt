-- Laws of cells that areas share.
pub mod Search
pub mod Pairs
