pub mod Places
pub mod Showing
pub mod Taking
pub mod Setting
pub mod Laws
