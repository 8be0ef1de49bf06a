pub mod Sum
pub mod Six
