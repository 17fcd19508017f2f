pub mod SortKeys
pub mod LastRuns
pub mod Counted
