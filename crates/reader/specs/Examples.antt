-- Examples of 01, "Examples from the quay", as rows.
pub mod Reads
