-- Laws of the home check, of the panel's reading and of the check of both readings. `Homes` says of the rules what users ask besides the answers.
pub mod MatchSearch
pub mod Panels
pub mod Homes
