pub mod AllTrees
pub mod FirstFive
