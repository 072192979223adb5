-- Laws of one line.
pub mod Same
pub mod Noted
pub mod Parts
pub mod Stages
