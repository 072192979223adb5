-- What the contracts on placed rectangles cite: their words (Words), what is free (Free), what the code computes (Steps).
pub mod Words
pub mod Free
pub mod Steps
