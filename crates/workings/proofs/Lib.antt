pub mod Only
pub mod AtNan
