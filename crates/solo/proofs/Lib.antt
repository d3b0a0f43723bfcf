pub mod Exact
pub mod FourSlots
