pub mod Next
pub mod Climb
