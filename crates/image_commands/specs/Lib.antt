pub mod Calculating
pub mod Laws
pub mod Parts
pub mod Told
pub mod Said
pub mod Taking
