mod Noting
mod Clearing
mod NoTwin
mod Listing
