-- What the contract of the bench's call cites.
pub mod Numbers
