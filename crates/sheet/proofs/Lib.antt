pub mod Lines
pub mod CallLines
pub mod SetUpLines
pub mod LineLengths
pub mod Readings
pub mod OneReading
