pub mod Slices
pub mod Waits
