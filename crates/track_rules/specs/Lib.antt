-- What the contracts of layer 5 cite.
pub mod Numbers
pub mod Tracks
pub mod Written
pub mod Records
pub mod Steps
pub mod Css
pub mod Sources
pub mod Rust
pub mod Lines
pub mod Cases
