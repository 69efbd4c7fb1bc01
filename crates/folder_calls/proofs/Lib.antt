mod Reading
mod Written
mod SameStart
