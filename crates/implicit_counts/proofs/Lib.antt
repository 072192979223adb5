-- Laws of implicit tracks by argument: after an accepted sheet the grid is that of the sheet with that `extra` line (Theorem).
pub mod Theorem
