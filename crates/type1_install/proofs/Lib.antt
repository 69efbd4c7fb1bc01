pub mod PayloadNames
pub mod PayloadsKept
pub mod Installing
pub mod Planned
pub mod Cleaning
mod SameBytes
mod Taken
mod Appending
mod Places
mod Words
mod Payloads
mod Unnamed
mod Ordered
mod Expanding
mod Fields
mod Standing
mod Leftovers
