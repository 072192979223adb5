-- Laws of the tables of a panel.
pub mod Signs
pub mod Among
pub mod Places
pub mod Rooms
pub mod Fits
pub mod Same
pub mod Back
pub mod Limits
pub mod Axes
pub mod Regions
