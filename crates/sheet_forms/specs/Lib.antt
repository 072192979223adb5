-- What the contracts on one line of a sheet cite.
pub mod Words
pub mod Faults
pub mod Said
pub mod Answers
pub mod Fields
pub mod Sizes
pub mod Ends
pub mod Records
pub mod Names
pub mod Forms
pub mod Rows
