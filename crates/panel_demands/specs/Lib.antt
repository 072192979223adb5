-- What the three demands say, what of it is said of cells, and what is said of areas that share a cell, of area pictures, and of the marked edges.
pub mod Demands
pub mod Overlaps
pub mod Pictures
pub mod PictureSheets
pub mod Cells
pub mod Marked
