pub mod Solution
pub mod Laws
pub mod Writing
