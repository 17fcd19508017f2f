pub mod Rows
pub mod Flags
pub mod Same
pub mod Filled
pub mod Pushing
