pub mod proofs
pub mod Told
pub mod Opening
pub mod Refusing
pub mod Listing
pub mod Moving
