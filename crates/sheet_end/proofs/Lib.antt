-- Laws of the end of a sheet: what a view's words stand for (Names, Items, Entries), and the end on them is the view's (Same).
pub mod Names
pub mod Items
pub mod Entries
pub mod Faults
pub mod Puts
pub mod Same
