-- Laws of positions of lines.
pub mod Walk
pub mod Differences
pub mod Rise
pub mod Nearest
pub mod Within
pub mod Lines
