-- What serializing gives: the image of entries that stand in a buffer.
pub mod Record
pub mod Serialize
pub mod Steps
