-- Laws of reading. `Bounds`, `FoundAt` and `IdWalks` say of the rules what users ask besides the answers; `ExampleReads` has 01's rows about reading.
pub mod Images
pub mod Opens
pub mod Searches
pub mod EarlyMiss
pub mod Namings
pub mod Lengths
pub mod IdWalks
pub mod Bounds
pub mod FoundAt
pub mod ExampleReads
