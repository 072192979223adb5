-- What the contracts of the calls on track counts cite.
pub mod Counts
pub mod Spans
