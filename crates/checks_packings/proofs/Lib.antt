pub mod SplitHalves
