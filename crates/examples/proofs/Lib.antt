pub mod Records
pub mod Compose
pub mod Telex
pub mod Entries
pub mod Refusals
