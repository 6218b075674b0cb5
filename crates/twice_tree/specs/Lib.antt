pub mod Twice
pub mod Order
pub mod Cells
pub mod Opening
pub mod Laying
pub mod Joining
