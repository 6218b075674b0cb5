pub mod Sound
pub mod Run
pub mod Progress
pub mod Slots
pub mod Team
