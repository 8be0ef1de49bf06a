pub mod Only
pub mod Ways
