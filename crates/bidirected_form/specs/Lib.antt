pub mod Rows
pub mod Digraph
pub mod Bidirected
pub mod Entering
pub mod Building
