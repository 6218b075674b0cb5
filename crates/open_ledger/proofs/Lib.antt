pub mod Kept
pub mod Steps
pub mod Joining
pub mod Together
