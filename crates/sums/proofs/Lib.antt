pub mod Only
pub mod Forward
pub mod Carried
pub mod Placed
pub mod Sides
