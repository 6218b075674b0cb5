pub mod GoingOn
pub mod Finding
pub mod Resumed
pub mod InRest
