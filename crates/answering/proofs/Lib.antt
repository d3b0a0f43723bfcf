pub mod RunLines
pub mod FirstLine
pub mod OneOutput
