pub mod Banks
pub mod Values
pub mod Hashes
pub mod Phases
pub mod ValueLines
pub mod Prelude
