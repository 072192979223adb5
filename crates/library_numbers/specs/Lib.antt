-- What the contracts of the exported calls cite: the answers of the calls on a panel, and its track records, as numbers.
pub mod Answers
pub mod Records
