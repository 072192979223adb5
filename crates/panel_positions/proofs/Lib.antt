-- Laws of the cursor on the lines of a panel.
pub mod Carrying
pub mod Places
pub mod Answers
pub mod Ranges
pub mod Theorem
