pub mod Room
pub mod Lines
pub mod Texts
pub mod Decimals
