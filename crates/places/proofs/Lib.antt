pub mod Only
pub mod Ends
pub mod AsPrinted
pub mod Stands
pub mod Known
