pub mod Alike
pub mod Bests
pub mod Eligibility
pub mod Overriding
pub mod Places
pub mod Ranks
pub mod Rounds
pub mod Unique
