pub mod Reaching
pub mod Spreading
pub mod Leaves
pub mod Keeping
pub mod Growing
