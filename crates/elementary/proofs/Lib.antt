pub mod Only
pub mod Units
pub mod Whole
pub mod Digits
pub mod Nearest
pub mod Logarithm
pub mod Sqrt
