pub mod Sets
pub mod Waits
pub mod Added
pub mod Numbered
pub mod Kept
mod Gone
mod Moved
mod Place
