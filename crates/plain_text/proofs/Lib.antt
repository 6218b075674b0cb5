pub mod Cut
pub mod Lacking
pub mod Steps
pub mod Numerals
