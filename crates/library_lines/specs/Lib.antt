-- What the contracts on lines and track counts by argument cite.
pub mod Numbers
