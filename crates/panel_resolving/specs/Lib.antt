-- What the contracts of placements cite.
pub mod Listing
pub mod Drawn
pub mod Names
pub mod Asking
pub mod Whole
pub mod Placements
pub mod Chosen
pub mod Lent
