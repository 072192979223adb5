-- What document 02, Req 14 says of acts through a history.
pub mod Acts
pub mod Run
pub mod Recalls
pub mod Edited
pub mod Answers
pub mod Columns
