-- `Pieces`: texts as they are written. `Fits`: how long a text can be. `Only`: no second result.
pub mod Pieces
pub mod Fits
pub mod Only
