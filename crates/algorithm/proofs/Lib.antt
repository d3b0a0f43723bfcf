pub mod Stations
pub mod Laws
pub mod Lowered
