pub mod Packings
pub mod NoLighter
pub mod InOrder
