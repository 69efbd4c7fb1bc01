pub mod PhaseWords
pub mod Distinct
pub mod ItemLines
pub mod ReadBack
