pub mod Runs
pub mod Orders
pub mod Tracked
pub mod Skip
