-- Laws of the resolver.
pub mod Integers
pub mod Counting
pub mod Finding
pub mod Questions
pub mod Theorems
pub mod Cases
