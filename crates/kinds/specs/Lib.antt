pub mod Names
pub mod Runs
pub mod Promise
