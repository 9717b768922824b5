-- Laws about canonical images.

-- counting, and when a table or a back array matches entries
pub mod Sums
pub mod Cells
pub mod BackArray
pub mod FilledTable
pub mod RisingOffsets
-- the puts of an image, read back
pub mod ReadBack
pub mod EntriesAhead
-- an image by its words and entries
pub mod Concatenation
pub mod InPlace
pub mod InPlaceImage
pub mod ImageInPlace
-- the checks, and what they decide
pub mod TableChecks
pub mod EntryChecks
pub mod ChecksSuffice
pub mod ChecksHold
pub mod Decision
-- the loops
pub mod TableLoops
pub mod EntryBuckets
pub mod EntryLoop
-- lists of calls, the theorem, and worked examples
pub mod ListImages
pub mod Theorem
pub mod ExampleRows
