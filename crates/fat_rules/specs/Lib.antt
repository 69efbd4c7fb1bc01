pub mod Aliases
pub mod Entries
pub mod Sharing
pub mod Recovery
pub mod Slots
pub mod Twins
