pub mod Node
pub mod Raising
pub mod Step
pub mod Finding
pub mod Target
pub mod Trying
pub mod Open
