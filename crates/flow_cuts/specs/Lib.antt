pub mod Fewest
pub mod Sending
