-- Laws of the records of a sheet.
pub mod Together
pub mod Parts
pub mod Codes
pub mod Order
pub mod Firsts
pub mod FieldRows
pub mod PartRows
pub mod EndRows
pub mod WordRows
pub mod LineRows
pub mod LineFaults
pub mod FieldBounds
pub mod Bounds
pub mod AreaRows
pub mod Theorem
pub mod Examples
