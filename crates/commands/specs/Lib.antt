pub mod Format
pub mod Lines
pub mod Steps
pub mod Stream
