pub mod Packing
pub mod Loads
pub mod Full
pub mod Saturated
pub mod SetTable
pub mod ProofTree
pub mod Laws
