-- `TurnLaws`: turns one after the other, and the desk that they leave. `Only`: no second result.
pub mod TurnLaws
pub mod Only
