-- `Filled`: an array filled by a loop. `Ways`: what holds of each way in which a record is read holds of it. `Only`: no second result.
pub mod Filled
pub mod Ways
pub mod Only
