-- What the contracts on the lines of an answer cite.
pub mod Answer
pub mod Listed
pub mod Walk
pub mod Text
pub mod Printed
