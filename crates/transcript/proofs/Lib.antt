-- `DeedLaws`: what is known of a record that was played. `RunLaws`: a run played record by record. `AsRuns`: it is a
-- run of the desk's theorems. `Fits`: no text is cut. `Only`: no second result.
pub mod DeedLaws
pub mod RunLaws
pub mod AsRuns
pub mod Fits
pub mod Only
