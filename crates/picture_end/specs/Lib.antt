-- What the contracts on the end of a picture cite.
pub mod Steps
