pub mod Tests
pub mod Moves
pub mod Places
pub mod Stations
pub mod InTime
pub mod Exact
