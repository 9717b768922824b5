-- Laws about the writer's rules.
pub mod Fits
pub mod EntryStored
pub mod Agree
pub mod Earlier
pub mod Puts
pub mod Closes
pub mod Accepted
pub mod Kept
pub mod Longer
pub mod CRecords
