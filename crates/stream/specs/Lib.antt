pub mod Refusals
pub mod Passing
pub mod Streams
pub mod Making
pub mod Calls
