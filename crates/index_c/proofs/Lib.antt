-- Laws of the exported calls of the index.
pub mod IndexCalls
