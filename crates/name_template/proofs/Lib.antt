-- Laws of the writing out: lines and the table (Lines), the rule over names, tracks and repeats (Items), worked cases.
pub mod Leading
pub mod Repeats
pub mod Placing
pub mod Walking
pub mod Holding
pub mod Lines
pub mod Pieces
pub mod Items
pub mod Cases
