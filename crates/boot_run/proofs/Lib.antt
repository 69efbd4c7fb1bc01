mod Acked
mod Acknowledging
mod Expanding
mod Expansions
mod Recovering
pub mod Replying
mod Running
pub mod ScriptLines
mod Staying
pub mod Stepping
mod Spared
mod Sweeping
mod Synced
mod Taken
mod Topping
pub mod UpToRefused
