-- Laws of the lines of a history.
pub mod Places
pub mod Ends
pub mod Steps
pub mod Exactly
pub mod Histories
