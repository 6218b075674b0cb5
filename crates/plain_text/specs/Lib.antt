pub mod Steps
pub mod Numbers
pub mod Pieces
pub mod Lines
