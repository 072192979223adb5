-- Laws of area pictures.
pub mod Words
pub mod Cells
pub mod Boxes
pub mod Lists
pub mod Runs
pub mod Drawn
pub mod Continue
pub mod Grown
pub mod Taken
pub mod Theorem
pub mod Cases
