pub mod Only
pub mod Agreed
