-- What the contract of all line names in one run cites.
pub mod Lists
