-- What the exported lookup answers.
pub mod IdAnswers
