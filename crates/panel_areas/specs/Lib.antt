-- What the contracts on the edges of an area by its name cite, and what the edges that names make are in the words of CSS.
pub mod Areas
pub mod Theorem
