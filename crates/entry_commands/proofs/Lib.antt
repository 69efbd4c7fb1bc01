mod Choices
mod WordError
mod Firsts
pub mod GoodEntries
pub mod ImageNames
pub mod InstalledEntry
pub mod Kept
mod Leftovers
mod ListedCounters
mod ListedJson
pub mod Renamed
pub mod Replies
pub mod Reported
pub mod Siblings
mod Untold
