-- Laws of automatic placing.
pub mod Lands
pub mod Cursors
pub mod Turns
pub mod Placed
pub mod Theorems
pub mod Cases
pub mod Plain
pub mod Items
pub mod Cut
