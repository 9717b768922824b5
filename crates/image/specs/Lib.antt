-- What an image is, as 01 says it: words and lists, tables of buckets, and the image record.
pub mod Bytes
pub mod Tables
pub mod Image
pub mod Head
pub mod Stored
pub mod Tally
pub mod Zero
pub mod PackedNames
pub mod Steps
