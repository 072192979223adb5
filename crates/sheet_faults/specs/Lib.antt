-- What the contracts on one line of a sheet cite.
pub mod Lines
pub mod Parts
