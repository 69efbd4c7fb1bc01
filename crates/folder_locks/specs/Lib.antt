pub mod Holding
pub mod Meeting
pub mod Looking
pub mod Checking
pub mod Reading
