-- Document 02, Req 10: where a cell lies in one axis, in the words of CSS (Css), and what the code answers (Steps).
pub mod Types
pub mod Css
pub mod Steps
