mod Beginning
pub mod ConfPlaces
pub mod Expansions
pub mod ExpansionsSpare
pub mod Later
mod Numbers
mod Reading
mod Replied
pub mod Replies
pub mod Sparing
mod Temps
mod Tidies
mod Swept
pub mod SweptTemps
mod Turning
pub mod Unrefused
