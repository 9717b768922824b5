-- Laws of the exported calls.
pub mod CCalls
pub mod GrownCalls
pub mod InPlace
pub mod RecordRead
pub mod ShortPlaces
pub mod Sizes
