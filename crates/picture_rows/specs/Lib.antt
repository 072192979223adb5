-- What the contracts on a row of a picture cite, and what it leaves on the table of a picture's areas.
pub mod Steps
pub mod Rows
