pub mod Adding
pub mod Taking
pub mod Beginning
pub mod Going
pub mod Closing
pub mod WalkingBack
