pub mod Arguments
pub mod Kinds
pub mod Wrapping
pub mod Counts
pub mod Values
pub mod Means
pub mod LawsOfKinds
pub mod Sums
