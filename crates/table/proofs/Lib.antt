pub mod Cells
pub mod Compacted
pub mod Places
