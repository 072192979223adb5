-- What the contracts on positions of lines cite.
pub mod Positions
pub mod Steps
