pub mod Numbers
pub mod Words
pub mod Stages
pub mod Places
pub mod Meaning
pub mod InTime
pub mod Fresh
