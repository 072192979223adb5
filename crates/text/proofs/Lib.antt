-- Laws of texts that are cut at a separator, and of numbers as a sheet writes them.
pub mod Laws
pub mod Library
pub mod Cut
pub mod Which
pub mod Places
pub mod Held
pub mod Signs
pub mod Hex
pub mod Decimals
pub mod Digits
pub mod Hexadecimals
