-- What the contracts of the panel program cite.
pub mod Printed
