-- What the steps of the code ask and promise. No promise of a public function cites them.
pub mod Slots
pub mod HashedNames
pub mod Duplicates
pub mod Probing
pub mod Answers
