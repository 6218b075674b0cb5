pub mod Spreads
pub mod Settled
pub mod Found
pub mod Cutting
pub mod Trimming
pub mod Leafless
pub mod Waiting
pub mod Saving
