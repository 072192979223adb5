-- Laws of lines and track counts by argument: numbers that are no 16 bits are refused by 4 (Refused).
pub mod Refused
