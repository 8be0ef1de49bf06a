pub mod Phases
pub mod Ends
pub mod Asked
pub mod Only
