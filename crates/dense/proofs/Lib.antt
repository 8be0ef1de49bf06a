pub mod Only
pub mod AsPrinted
