-- What editing through a history and recalling a step answer and leave.
pub mod History
pub mod Names
pub mod Steps
