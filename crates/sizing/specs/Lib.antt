-- What the contracts of layer 2 cite.
pub mod Words
pub mod Kinds
pub mod Definite
pub mod Ranges
pub mod Sums
pub mod Steps
