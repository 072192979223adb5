-- Laws of edits of a draft.
pub mod Bases
pub mod TextParts
pub mod Drafts
pub mod Applied
pub mod EnteredCalls
pub mod Settled
