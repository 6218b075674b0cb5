pub mod Numbered
pub mod Prized
