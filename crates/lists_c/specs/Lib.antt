-- What the exports answer for C, a file for each subject.
pub mod LoadAnswer
pub mod AverageAnswer
pub mod OneToOneAnswer
