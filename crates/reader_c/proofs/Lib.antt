-- Laws for the exports.
pub mod ShortNames
pub mod Places
