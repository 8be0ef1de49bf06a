pub mod Coefficients
pub mod H2ab
pub mod Subregions
