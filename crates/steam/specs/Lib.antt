pub mod Laws
pub mod Region2
