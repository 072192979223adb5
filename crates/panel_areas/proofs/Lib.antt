-- Laws of the edges of an area by its name: what the search for one comes to (Named), and the edges that names make in the words of CSS (Theorem).
pub mod Named
pub mod Theorem
