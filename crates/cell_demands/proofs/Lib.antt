-- Laws of the cells of a sheet: their places among its placements (Starts), the cells that are placed (Lines), and what is answered (Placed);
-- the cursor of sparse packing (Ends); two runs whose cells land differently (Differ).
pub mod Starts
pub mod Lines
pub mod Placed
pub mod Ends
pub mod Differ
