-- What `lomaji.rs` does, a file for each job.
pub mod Strip
pub mod Quick
pub mod Single
pub mod Khin
pub mod Dot
pub mod ToneLetter
pub mod Keys
