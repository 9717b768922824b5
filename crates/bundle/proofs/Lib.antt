-- Laws of the bundle's definitions.
pub mod FileSteps
pub mod FileWalks
pub mod ImagePlaces
pub mod Appends
pub mod WholeFiles
pub mod EqualFronts
pub mod OneImageMore
pub mod AcceptedAppend
pub mod AppendLists
pub mod Theorem
pub mod ExampleRows
