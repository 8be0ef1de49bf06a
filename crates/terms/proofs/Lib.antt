pub mod Only
pub mod Exponents
pub mod Rows
pub mod Terms
pub mod Lent
