pub mod Vapour
pub mod Walks
