-- Document 02, Req 01: the two lists of placements, in its own words (Hits), and what the code answers (Steps).
pub mod Types
pub mod Hits
pub mod Steps
