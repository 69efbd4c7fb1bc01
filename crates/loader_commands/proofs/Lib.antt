mod Limits
mod Told
