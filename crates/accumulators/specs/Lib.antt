pub mod Aggregations
pub mod Groups
pub mod LawsOfPairs
pub mod SideBySide
pub mod Feeding
