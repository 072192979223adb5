-- What the contracts of grouped name entries cite.
pub mod Keys
pub mod Listed
pub mod Groups
pub mod Indexing
