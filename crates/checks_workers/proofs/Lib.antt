pub mod Avoiding
