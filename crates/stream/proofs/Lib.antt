pub mod Alike
pub mod Reserving
pub mod Ending
pub mod Settling
pub mod Grouping
pub mod Offering
pub mod Taking
pub mod Beginning
