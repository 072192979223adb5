-- Laws of the line lists: the word of a name (Words), the entries of one line (OnLine), how many there are (Counting), their lines
-- (Keys), those that a chain gathers (Gathering), those that lie between two boundaries where the lines ascend (Boundary), and the words
-- written one after the other (Writing, Lines); that each line finds its own list among them (Listed), and where they are written (Fitting).
pub mod Chaining
pub mod Words
pub mod OnLine
pub mod Counting
pub mod Keys
pub mod Gathering
pub mod Further
pub mod Boundary
pub mod Writing
pub mod Lines
pub mod Listed
pub mod Fitting
