-- Laws of the name store: what an accepted entry tells (Accepted), entries as words (Entering), and what the names of a line are (Shown).
pub mod Same
pub mod Graphic
pub mod Sets
pub mod Accepted
pub mod Entering
pub mod Showing
pub mod Shown
