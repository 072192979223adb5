-- What the contracts of layer 1 cite; those of the calls on lines: Answers, Cases.
pub mod Axes
pub mod Refusals
pub mod Types
pub mod Lines
pub mod Ends
pub mod Held
pub mod Answers
pub mod Cases
