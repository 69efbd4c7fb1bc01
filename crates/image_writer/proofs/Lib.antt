pub mod Assembled
pub mod Filled
pub mod Lengths
pub mod Padded
pub mod PlannedImages
pub mod Rising
