-- What the contracts of the calls cite beside the definitions of the crates below.
pub mod Carried
