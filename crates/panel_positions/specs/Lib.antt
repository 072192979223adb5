-- What the contracts on the cursor cite.
pub mod Cursor
pub mod Steps
pub mod Theorem
