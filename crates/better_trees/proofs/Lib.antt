pub mod Narrow
pub mod Found
pub mod Written
