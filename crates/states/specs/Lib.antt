pub mod Marks
pub mod Mixing
