-- Laws of reading a sheet.
pub mod Names
pub mod Bytes
pub mod Steps
pub mod Ends
pub mod Follows
pub mod Answers
