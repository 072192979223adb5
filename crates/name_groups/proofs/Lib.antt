-- Laws of grouped name entries.
pub mod Keying
pub mod Ungrouped
pub mod Listing
pub mod Parting
pub mod KeyEntries
pub mod KeptKeys
pub mod Counting
pub mod Putting
pub mod Groups
pub mod Indexing
