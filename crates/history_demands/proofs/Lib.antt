-- Laws of acts through a history.
pub mod Lists
pub mod Texts
pub mod Fit
pub mod Numbers
pub mod Kept
pub mod Here
pub mod Runs
pub mod Recalls
pub mod Edits
pub mod Answers
pub mod Columns
