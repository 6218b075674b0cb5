pub mod Joined
pub mod Tells
pub mod OneText
