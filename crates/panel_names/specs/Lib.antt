-- What the contracts of an entry call and of the line names cite.
pub mod Entered
pub mod Lent
pub mod LineEntries
