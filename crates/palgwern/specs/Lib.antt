-- What the contracts of the exported calls cite beside the answers as numbers.
pub mod Names
pub mod Cursor
pub mod Cells
pub mod Hits
pub mod Resize
pub mod Resized
pub mod Lines
pub mod Layout
pub mod Sizes
pub mod Areas
pub mod Trial
pub mod History
pub mod Implicit
pub mod Given
