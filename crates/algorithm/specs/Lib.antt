pub mod Plan
pub mod Turns
pub mod Meaning
pub mod Flags
