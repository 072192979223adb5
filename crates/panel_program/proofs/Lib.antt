pub mod Bytes
pub mod Long
