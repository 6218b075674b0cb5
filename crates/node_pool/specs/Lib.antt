pub mod Lane
pub mod Ends
pub mod Pool
pub mod Sides
pub mod Laws
