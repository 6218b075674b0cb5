pub mod Splits
pub mod Writing
pub mod Extended
pub mod Heavier
pub mod Refined
pub mod Found
pub mod Closed
