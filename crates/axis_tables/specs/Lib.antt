-- What the contracts on the tables of an axis cite.
pub mod Lay
pub mod Runs
pub mod View
pub mod Readings
pub mod Store
pub mod Written
pub mod Reads
