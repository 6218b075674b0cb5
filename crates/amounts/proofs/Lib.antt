pub mod Decimals
pub mod Reread
