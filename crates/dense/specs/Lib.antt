pub mod Region3
pub mod Density
