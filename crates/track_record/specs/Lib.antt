-- What the contracts on written-out tracks cite.
pub mod Repeats
pub mod Plans
