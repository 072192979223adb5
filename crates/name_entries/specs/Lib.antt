-- What the contracts of the name store cite.
pub mod Entries
pub mod Names
pub mod Enter
pub mod LineNames
pub mod LineEntries
pub mod Places
