pub mod Arithmetic
pub mod BasicEquations
pub mod BackwardEquations
