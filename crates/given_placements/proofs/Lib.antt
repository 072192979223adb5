-- Laws of placements by argument.
mod Tables
mod Copies
mod Runs
mod Ends
mod Puts
pub mod Theorem
pub mod Fields
