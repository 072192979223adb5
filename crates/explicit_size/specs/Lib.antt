-- What the contracts on the automatic repeat of a template cite.
pub mod Repeat
pub mod Steps
