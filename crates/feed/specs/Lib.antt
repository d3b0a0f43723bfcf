pub mod Board
pub mod Job
pub mod Words
pub mod Task
pub mod Whole
pub mod Course
pub mod Laws
