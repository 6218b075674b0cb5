pub mod Spanning
pub mod Forest
pub mod Growing
pub mod Settled
