pub mod Only
pub mod Summed
