-- What the contracts on the lines of a history cite.
pub mod Lines
pub mod Found
pub mod Written
