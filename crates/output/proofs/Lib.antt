pub mod Making
pub mod Padding
pub mod Writing
pub mod Handing
