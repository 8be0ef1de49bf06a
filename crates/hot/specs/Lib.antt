pub mod Laws
pub mod Region5
