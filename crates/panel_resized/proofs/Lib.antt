-- Laws of a panel with another inner size: the words of an axis (Words), the line after the last once more (Again), the call (Resized), and after an
-- accepted sheet (Theorem).
pub mod Words
pub mod Again
pub mod Resized
pub mod Theorem
