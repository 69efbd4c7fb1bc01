pub mod Tree
pub mod Calls
pub mod Ready
pub mod Answers
pub mod Locks
pub mod Written
pub mod Rows
