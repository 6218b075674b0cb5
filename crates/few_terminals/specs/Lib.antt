pub mod Fault
pub mod Under
pub mod Terminals
pub mod Reach
pub mod Entries
pub mod Rows
pub mod Filling
pub mod Back
