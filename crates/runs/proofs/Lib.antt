pub mod Noting
pub mod Calling
pub mod Walking
pub mod Running
