pub mod RowLemmas
pub mod Lookups
pub mod Built
pub mod Entered
pub mod Altered
