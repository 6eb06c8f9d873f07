pub mod House
pub mod HouseLaws
pub mod Orders
pub mod Ranking
pub mod Seniority
pub mod SeniorityLaws
