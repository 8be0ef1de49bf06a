pub mod Only
pub mod Search
pub mod Tests
pub mod Changes
pub mod Good
pub mod Pass
pub mod Lists
pub mod Told
