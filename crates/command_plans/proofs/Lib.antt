pub mod WordErrors
pub mod Each
mod Effects
pub mod Exits
mod Known
mod Scanned
pub mod Sparing
mod WithoutRepeats
pub mod Performed
pub mod Registers
pub mod Replies
pub mod Sizes
pub mod ReadErrors
pub mod Worded
pub mod ReadPaths
pub mod Steps
pub mod InstallNames
pub mod Once
