-- Laws of sizes at another inner size: after an accepted sheet they are those of the sheet with that inner size (Theorem).
pub mod Theorem
