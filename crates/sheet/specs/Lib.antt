-- What the contracts on reading a sheet cite.
pub mod Runs
pub mod Steps
