pub mod ItemSteps
pub mod Scans
pub mod LineLemmas
