pub mod Branched
pub mod Part
pub mod Better
pub mod Grown
