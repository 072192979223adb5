-- Laws of layer 2.
pub mod Bits
pub mod Patterns
pub mod Ranges
pub mod Words
pub mod Fixed
pub mod Sums
pub mod Operations
pub mod Rounding
pub mod Running
