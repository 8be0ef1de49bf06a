-- `VersionLaws`: what proofs elsewhere know of the versions. `Only`: no second result.
pub mod VersionLaws
pub mod Only
