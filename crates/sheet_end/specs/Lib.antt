-- What the contracts on the end of a sheet cite.
pub mod End
