pub mod Counted
pub mod Rounded
