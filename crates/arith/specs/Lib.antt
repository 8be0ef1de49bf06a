pub mod F64
pub mod Printed
pub mod Bits
pub mod Power
pub mod Coefficients
