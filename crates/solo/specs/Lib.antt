pub mod Meaning
pub mod Signs
pub mod Law
