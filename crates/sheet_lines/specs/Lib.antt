-- What the contracts on a line and its fields cite.
pub mod Fields
pub mod Read
pub mod Sizes
