pub mod Counting
pub mod Halving
pub mod Worked
pub mod Going
pub mod Done
pub mod Answered
