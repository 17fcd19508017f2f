pub mod Setups
pub mod Questions
pub mod Machine
pub mod Steps
pub mod Runs
pub mod Sql
pub mod Law
