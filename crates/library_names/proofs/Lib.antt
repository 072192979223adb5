-- Laws of the lists of an axis: what refuses them, and what is written.
pub mod Listing
