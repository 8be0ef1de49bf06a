pub mod Queries
pub mod Quotients
pub mod Outcomes
