-- Document 02, Req 11: what trying a name answers (Trial), after a run (Runs), and what the code has on the way (Stores).
pub mod Trial
pub mod Runs
pub mod Stores
