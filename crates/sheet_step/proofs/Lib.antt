-- Laws of records written into their regions.
pub mod Back
pub mod Pictures
