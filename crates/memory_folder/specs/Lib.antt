pub mod Paths
pub mod Notes
pub mod Entries
pub mod Folder
