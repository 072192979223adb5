-- Laws of the lists of placements: a run of numbers is read back as the settled placements (Numbers); what stands past 512 placements
-- (Far); what the calls answer (Answers); both lists are those of document 02 (Theorem); columns alone (Alone).
pub mod Numbers
pub mod Far
pub mod Answers
pub mod Theorem
pub mod Alone
