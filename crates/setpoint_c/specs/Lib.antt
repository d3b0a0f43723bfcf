pub mod Outcomes
pub mod Bound
pub mod Left
