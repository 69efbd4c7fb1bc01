pub mod Aliases
pub mod Entries
pub mod Slots
pub mod Twins
