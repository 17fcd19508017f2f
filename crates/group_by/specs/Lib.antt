pub mod Counts
pub mod Marks
pub mod Ids
pub mod Cases
pub mod Sets
pub mod Groupings
pub mod Keys
