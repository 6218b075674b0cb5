pub mod Closing
pub mod Proving
