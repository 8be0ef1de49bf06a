-- `RowLaws`, `ReadLaws`: what the definitions mean for each other. `Only`: no second result.
pub mod RowLaws
pub mod ReadLaws
pub mod Only
