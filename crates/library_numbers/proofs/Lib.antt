-- A law of the kinds of records.
pub mod RecordKinds
