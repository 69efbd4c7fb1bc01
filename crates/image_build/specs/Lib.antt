pub mod Building
pub mod Imaged
pub mod Laws
pub mod Offers
pub mod Planning
pub mod Reads
