pub mod Noted
pub mod Clear
pub mod Sought
pub mod Shown
pub mod Ways
pub mod Files
pub mod Rescues
