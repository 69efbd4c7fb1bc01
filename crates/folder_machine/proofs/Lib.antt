pub mod FilesIn
pub mod NameSteps
mod LeftNames
pub mod NameRows
