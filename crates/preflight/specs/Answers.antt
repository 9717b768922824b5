-- What the functions answer, as data; specs/Cases joins the code's answers to it.
pub mod Place
pub mod Shared
pub mod Taken
pub mod Verdict
pub mod Answer
pub mod DatesAnswer
