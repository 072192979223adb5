-- Laws of the exported calls: where a name lies (Parts), and all line names in one run, which are those that are asked for one by one
-- (Listed); the lists of placements (Counted); what a refused edit hands back (Edits).
pub mod Parts
pub mod Listed
pub mod Counted
pub mod Edits
