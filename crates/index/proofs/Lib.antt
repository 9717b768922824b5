-- The laws of the index.
pub mod Probing
pub mod Insert
pub mod Contains
pub mod PutChecks
pub mod RightKept
pub mod PutPromise
pub mod Cleared
pub mod MakeIndex
pub mod PlainLists
pub mod ListsByIndex
