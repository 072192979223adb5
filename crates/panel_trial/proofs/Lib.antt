-- Laws of trying a name.
pub mod Reach
pub mod Answers
pub mod Panels
pub mod Copies
pub mod Trials
pub mod Runs
