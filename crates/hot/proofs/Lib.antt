pub mod Only
pub mod Said
