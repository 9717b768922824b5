-- What the exports answer for C, a file for each subject.
pub mod OrderAnswer
pub mod SheetAnswers
pub mod PageAnswer
pub mod Bundle
pub mod NameOnAnswer
pub mod ChangeAnswers
pub mod LayoutAnswers
