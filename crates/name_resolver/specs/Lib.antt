-- What the contracts of the resolver cite; those of counted lines: Counts.
pub mod Types
pub mod Counts
pub mod Placements
pub mod Steps
pub mod Questions
