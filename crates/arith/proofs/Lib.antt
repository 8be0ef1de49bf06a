pub mod Only
pub mod Literals
pub mod Exponents
pub mod Signs
pub mod LowerPowers
pub mod Order
