pub mod Tests
pub mod Encoding
pub mod Unmarked
pub mod Syllables
pub mod Different
