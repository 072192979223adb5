-- What the contracts on the tables of a panel cite.
pub mod View
pub mod Widths
pub mod Readings
pub mod Numbers
pub mod Areas
pub mod Places
pub mod Placements
pub mod Regions
pub mod Written
pub mod Axes
