-- Laws of layer 1; those of the calls on lines: Conversions.
pub mod Integers
pub mod Lines
pub mod Conversions
pub mod Faults
