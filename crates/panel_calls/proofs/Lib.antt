-- Laws of the calls.
pub mod Carried
