-- What the view adds to the definitions of reading.
pub mod Num
