pub mod Laws
pub mod Region1
