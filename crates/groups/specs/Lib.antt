pub mod Plans
pub mod Held
pub mod Settings
pub mod Making
