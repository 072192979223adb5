-- What the contracts of layer 3 cite.
pub mod Template
pub mod Exact
pub mod Whole
pub mod Counts
pub mod Space
pub mod Summary
pub mod Steps
pub mod Repetitions
pub mod Explicit
pub mod Strategies
pub mod Crate
pub mod Css
pub mod CssWhole
pub mod Bounds
pub mod Cases
