-- What the contracts on printed lines cite.
pub mod Numerals
pub mod Lines
pub mod Written
pub mod Cases
