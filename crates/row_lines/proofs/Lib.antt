-- `NineValues`: the values of an answer. `Fits`: how long a line can be. `Only`: no second result.
pub mod NineValues
pub mod Fits
pub mod Only
