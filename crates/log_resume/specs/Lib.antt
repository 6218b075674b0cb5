pub mod Closes
pub mod Open
pub mod Grafted
pub mod Lines
pub mod Laws
pub mod Growing
