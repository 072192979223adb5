pub mod Follows
pub mod Text
pub mod Fills
pub mod Printed
pub mod Counted
pub mod Once
