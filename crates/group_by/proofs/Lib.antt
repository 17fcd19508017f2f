pub mod Counting
pub mod Numbers
pub mod Worked
pub mod Ordinals
pub mod Faulty
pub mod KeyCells
