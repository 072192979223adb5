-- What the contracts of the lent run cite.
pub mod Run
pub mod Steps
