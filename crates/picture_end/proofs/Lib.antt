-- Laws of the end of a picture.
pub mod Classes
pub mod Follows
