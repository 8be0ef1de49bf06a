-- `Pieces`, `Lines`: what a caller of several writers needs. `Joined`: what a loop that writes needs. `Lengths`: how long a text can be.
-- `Digits`: a number's text, digit by digit. `Rounding`: the whole number nearest a multiple of an f64. `ReadBack`: a number's text reads back as it.
-- `Samples`: texts worked out by hand. `Only`: no second result.
pub mod Pieces
pub mod Lines
pub mod Joined
pub mod Lengths
pub mod Digits
pub mod Rounding
pub mod ReadBack
pub mod Samples
pub mod Only
