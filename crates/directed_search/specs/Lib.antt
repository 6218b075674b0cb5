pub mod Found
pub mod State
pub mod Searching
