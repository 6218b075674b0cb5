pub mod Graph
pub mod Changes
pub mod Neighbours
pub mod Joined
pub mod Whole
