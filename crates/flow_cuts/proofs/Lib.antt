pub mod Arcs
pub mod Sums
pub mod Counts
pub mod Walks
pub mod Trees
pub mod Flows
