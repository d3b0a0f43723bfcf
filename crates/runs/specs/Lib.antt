pub mod Events
pub mod Told
pub mod Ledger
pub mod Promise
pub mod Refused
pub mod Words
