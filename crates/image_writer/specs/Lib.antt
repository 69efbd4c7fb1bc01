pub mod Chunks
pub mod Sourced
pub mod Taken
