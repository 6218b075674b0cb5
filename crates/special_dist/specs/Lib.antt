pub mod Visits
pub mod Searching
pub mod Steps
pub mod Answers
