pub mod Resizes
pub mod Ruled
pub mod Bounded
pub mod Recorded
pub mod Peaks
