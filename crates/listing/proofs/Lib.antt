-- `Fits`: no text is cut. `Only`: no second result.
pub mod Fits
pub mod Only
