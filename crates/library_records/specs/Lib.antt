-- What the contracts of a run of records cite.
pub mod Pairs
pub mod Parts
