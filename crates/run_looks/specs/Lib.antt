pub mod Maps
pub mod Names
pub mod Looks
pub mod Standing
pub mod Recent
