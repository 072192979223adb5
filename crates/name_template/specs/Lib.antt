-- What the contracts of the template's names cite.
pub mod Records
pub mod Writing
pub mod Steps
pub mod Lines
pub mod Items
