pub mod Facts
pub mod Settled
pub mod Marked
pub mod Letters
