-- What the contracts on edits of a draft cite.
pub mod Texts
pub mod Bases
pub mod Steps
pub mod Applied
pub mod Entered
