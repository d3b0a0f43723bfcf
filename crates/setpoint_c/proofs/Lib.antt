pub mod Lengths
pub mod Longest
pub mod Rooms
