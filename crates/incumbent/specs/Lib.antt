pub mod Least
pub mod Rule
pub mod Seat
pub mod Place
pub mod Joined
