-- `Fits`: the text is not cut. `Only`: no second result.
pub mod Fits
pub mod Only
