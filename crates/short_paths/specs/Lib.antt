pub mod Waiting
pub mod Marks
pub mod Walk
pub mod Routes
pub mod Searching
pub mod Steps
pub mod Laid
