-- What the contracts on a sheet cite.
pub mod Kinds
pub mod Pictures
pub mod Lines
pub mod Contents
pub mod Sheet
pub mod Valid
pub mod Rows
pub mod Overlaps
pub mod Steps
pub mod Panels
pub mod Answers
pub mod Read
