-- `WordLaws`: what the definitions mean for each other. `Only`: no second result.
pub mod WordLaws
pub mod Only
