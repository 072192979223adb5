-- What the contracts on a line of a sheet cite beside sheet_faults's.
pub mod Drafts
pub mod Regions
