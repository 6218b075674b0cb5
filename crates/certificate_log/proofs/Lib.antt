pub mod Once
pub mod Walking
pub mod Finding
pub mod Lowest
pub mod Sizes
pub mod Proved
pub mod Certifying
