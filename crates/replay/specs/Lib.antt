pub mod Record
pub mod Expected
pub mod Calls
pub mod Replay
