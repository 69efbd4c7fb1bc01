mod Maps
mod NameSets
mod Checks
mod Kept
