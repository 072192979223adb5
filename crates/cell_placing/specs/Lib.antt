-- Document 02, Req 10: automatic placing: cells (Items), where they land in the words of CSS (Css), and what the code computes (Steps, Turns).
pub mod Items
pub mod Css
pub mod Steps
pub mod Once
pub mod Turns
pub mod Plain
pub mod Cases
