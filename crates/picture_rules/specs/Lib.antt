-- Area pictures as CSS has them, how they are taken row by row, and worked cases.
pub mod Picture
pub mod Steps
pub mod Cases
