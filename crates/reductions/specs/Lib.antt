pub mod Results
pub mod Working
pub mod Sizes
