pub mod Only
pub mod Sides
