-- What the contracts of the two lists of placements cite, and which placements these hold.
pub mod Settled
pub mod Lists
pub mod Members
pub mod Alone
