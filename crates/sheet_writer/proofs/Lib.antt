-- `WriteLaws`: what the definitions mean for each other. `RoundTrip`: a written sheet reads back, and one that reads is written again. `Only`: no second result.
pub mod WriteLaws
pub mod RoundTrip
pub mod Only
