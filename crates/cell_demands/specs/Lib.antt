-- From the lines of a sheet to where its cells land (document 02, Req 10).
pub mod Lines
pub mod Ends
pub mod Differ
