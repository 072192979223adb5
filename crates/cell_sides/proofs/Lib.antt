-- Laws of a cell's side.
pub mod Sides
