pub mod Examples
pub mod Picked
pub mod Picking
pub mod Settled
