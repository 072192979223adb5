-- Laws of an entry call: what it leaves, and when it is refused. A law of line names: the entry that shows one.
pub mod Entered
pub mod LineEntries
