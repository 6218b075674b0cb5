pub mod Tally
pub mod Rule
pub mod Place
pub mod Seat
pub mod Ledger
pub mod Joined
