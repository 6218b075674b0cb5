pub mod Reversing
pub mod Shrinking
pub mod Untouched
pub mod Stepping
pub mod Passing
pub mod Starting
