pub mod Puts
pub mod Decimals
pub mod Hexadecimals
pub mod ReadBack
