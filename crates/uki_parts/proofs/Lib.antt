mod Adding
mod Cases
mod Entries
mod Kept
mod Ordered
mod Padded
mod Padding
