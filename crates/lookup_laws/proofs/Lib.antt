-- The laws of answers on images.
pub mod Scan
pub mod ProbeSequence
pub mod SearchFilling
pub mod TableContents
pub mod TableSearch
pub mod Matching
pub mod SlotSearch
pub mod ImageOpening
pub mod EntryProbe
pub mod EntriesOf
pub mod ImageLookup
pub mod ImageNaming
pub mod ImageAnswers
pub mod ImageWalk
pub mod Inverse
