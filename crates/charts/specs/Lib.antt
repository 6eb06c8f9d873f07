pub mod Chains
pub mod Members
pub mod Passes
pub mod Reaching
pub mod Sets
pub mod Views
pub mod Walks
