pub mod Stops
pub mod Wrong
pub mod Field
