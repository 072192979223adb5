-- Laws of runs of records: the words of sizes (Sizes), pairs one after the other (Pairs), single tracks in a row (Singles), what is taken at a cursor (Parts), those of a template (Components), of an axis (Axes), the
-- records one after the other (Running), and a run of them (Runs).
pub mod Sizes
pub mod Pairs
pub mod Singles
pub mod Parts
pub mod Components
pub mod Axes
pub mod Running
pub mod Runs
