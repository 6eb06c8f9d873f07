pub mod Positions
pub mod Running
pub mod Words
