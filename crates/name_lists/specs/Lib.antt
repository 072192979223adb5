-- What the contracts of the line lists cite.
pub mod Chains
pub mod Lists
pub mod Ascending
