pub mod Line
pub mod Calls
pub mod Sheet
pub mod Words
