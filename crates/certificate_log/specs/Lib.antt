pub mod Spent
pub mod Standing
pub mod Bound
pub mod Assembled
