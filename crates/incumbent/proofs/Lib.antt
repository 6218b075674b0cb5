pub mod Least
pub mod Steps
pub mod Joining
pub mod Together
