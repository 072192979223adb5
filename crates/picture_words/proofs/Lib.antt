-- Laws of the words of a line.
pub mod Words
pub mod Dots
pub mod Runs
pub mod Faults
