-- Laws of a whole list in one call.
pub mod Listed
pub mod Offsets
pub mod CallsLeft
pub mod AllPut
pub mod StoredAll
pub mod WrittenList
pub mod SinglePuts
pub mod Whole
pub mod ListWhole
pub mod Theorem
pub mod ExampleRows
pub mod Needed
