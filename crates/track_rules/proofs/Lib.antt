-- Laws of layer 5. The theorems that a reader looks for:
--   `records-at` (RecordList): element i of the record list is the record that the rule for one record gives
--   `rust_records` (Model): the record list, sources left out, is what the Rust's `initialize_grid_tracks` makes
--   `source-css`, `collapse-keeps-source` (Sources): each record's source is that of CSS's account, whatever collapses
--   `record-track`, `record-gutter` (Collapse): a track collapses, and a gutter stays, exactly by CSS's rule
--   `sizes-before`, `sizes-after`, `first_spare`, `last-spare` (Spares): implicit sizes as in CSS
--   `line_record` (Lines): after template line j stands track j, the third demand's track claim
--   `size-covers` (Covers): with layer 3's answer, not refused, all tracks of a valid template lie within the explicit count, as `line_record` asks
--   `cases_hold` (Cases): M12 and two more as one list
pub mod Lists
pub mod Words
pub mod Cursors
pub mod Opened
pub mod AllTracks
pub mod RecordList
pub mod Answers
pub mod Raw
pub mod Between
pub mod Model
pub mod Collapse
pub mod Sources
pub mod Spares
pub mod Lines
pub mod Cases
pub mod Covers
