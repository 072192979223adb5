-- Edits of a panel after its sheet (document 02, request 14).
pub mod Edits
pub mod Replay
pub mod Settled
pub mod Bases
pub mod Theorem
