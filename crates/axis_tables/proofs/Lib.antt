-- Laws of the tables of an axis.
pub mod Sets
pub mod Lays
pub mod Rooms
pub mod Parts
pub mod Runs
pub mod Joins
pub mod More
pub mod Fits
pub mod Follow
pub mod Same
pub mod Kept
pub mod Back
pub mod Limits
pub mod Regions
