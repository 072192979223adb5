-- What the contracts of the calls on a panel cite, and what the theorems about runs of calls say.
pub mod Calls
pub mod Placing
pub mod Runs
pub mod Views
pub mod Book
pub mod Added
pub mod Order
pub mod Ranges
pub mod Alone
pub mod Invalid
pub mod Cells
pub mod OneMoreName
pub mod Worked
