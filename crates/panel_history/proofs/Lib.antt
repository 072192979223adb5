-- Laws of what editing through a history and recalling a step answer and leave.
pub mod Texts
pub mod Passes
pub mod Enters
pub mod Replays
pub mod Turns
pub mod Calls
